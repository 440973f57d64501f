-- Columns of places, and the ASes that stand at them.
use Rattle.std.proofs.Common.{◌≡◌, ◌⊎◌, inl, inr, ⊎_elim, ℕ, suc, ◌+◌, ◌<◌, ◌≤◌, true, false, ◌||◌, not, eqb, Option, Some, List, [], ◌∷◌, ◌++◌, length, refl, sym, ◌∙◌, ap, subst, arith, true≢false, IsTrue, option_map, ◌==◌}
use Rattle.std.specs.Prelude.{nat_eq, ◌↔◌, All}
use Rattle.std.specs.List.{list_any}
use Rattle.std.proofs.lemmas.Bool.{cases_lt, cases_Bool, or_cases, or_right, eqb-true, eq-eqb}
use Rattle.std.proofs.lemmas.List.{length_push, get_or_push, get_or_append_left, get_or_past}
use Rattle.net_names.specs.declared.routes.Rel.{Rel}
use Rattle.net_names.specs.declared.routes.Rel.TheVariants.{Customer, Peer, Provider}
use Rattle.net_names.specs.Links.{converse}
use Rattle.net_names.specs.Numbers.{occurs}
use Rattle.net_names.specs.Addresses.{AddrValue}
use Rattle.path_pool.specs.declared.pool.PathPool.{PathPool}
use Rattle.stability_laws.specs.Plans.{Plan}
use Rattle.route_choice.specs.declared.round_tables.RoundTables.{RoundTables}
use Rattle.route_choice.specs.RoundTables.{round_routing}
use Rattle.as_graph.specs.declared.neighbour.Neighbour.{Neighbour}
use Rattle.as_graph.specs.Topology.{Topology, relation, has}
use Rattle.as_graph.specs.Edits.{LinksAreSound}
use Rattle.as_graph.specs.Neighbours.{AreNeighbours, asns}
use Rattle.data_trace.specs.declared.kinds.Hop.{Hop}
use Rattle.data_trace.specs.declared.places.PlaceHop.{PlaceHop}
use Rattle.data_trace.specs.declared.places.PlaceHop.TheVariants.{NoRoute, To}
use Rattle.data_trace.specs.declared.places.Group.{Group}
use Rattle.data_trace.specs.Hops.{next_hop}
use Rattle.data_trace.specs.Marks.{hop_at}
use Rattle.data_trace.specs.Watches.{IsStub}
use Rattle.data_trace.specs.Columns.{name_at, named, group_at, gone, is_customer}

eqb_turned : (a b : ℕ) → eqb a b ≡ eqb b a
eqb_turned a b = ⊎_elim (λ (e : eqb a b ≡ true). e ∙ sym (eq-eqb b a (sym (eqb-true a b e)))) (λ (f : eqb a b ≡ false). f ∙ sym (back f)) (cases_Bool (eqb a b))
  where
    back : eqb a b ≡ false → eqb b a ≡ false
    back f = ⊎_elim (λ (e : eqb b a ≡ true). absurd (true≢false (sym (eq-eqb a b (sym (eqb-true b a e))) ∙ f))) (λ e. e) (cases_Bool (eqb b a))

-- the two ways to say that a number stands in a list
pub occurs_in : (a : ℕ) (xs : List ℕ) → occurs a xs ≡ list_any (nat_eq a) xs
occurs_in a [] = refl
occurs_in a (x ∷ xs) = ap (λ b. b || occurs a xs) (eqb_turned x a) ∙ ap (λ b. eqb a x || b) (occurs_in a xs)

-- next hops are the same by the same plan, tables, pool and address
pub next_same : (plan plan' : Plan) (pool pool' : PathPool) (tables tables' : RoundTables) (addr addr' : AddrValue) → plan ≡ plan' → pool ≡ pool' → tables ≡ tables' → addr ≡ addr' →
    next_hop plan (round_routing pool tables) addr ≡ next_hop plan' (round_routing pool' tables') addr'
next_same plan plan' pool pool' tables tables' addr addr' p q t a =
    ap (λ (x : Plan). next_hop x (round_routing pool tables) addr) p
    ∙ ap (λ (x : PathPool). next_hop plan' (round_routing x tables) addr) q
    ∙ ap (λ (x : RoundTables). next_hop plan' (round_routing pool' x) addr) t
    ∙ ap (λ (x : AddrValue). next_hop plan' (round_routing pool' tables') x) a

-- ---- one place more

module _ (ases : List ℕ) (next : ℕ → Hop) (hops : List PlaceHop) (h : PlaceHop) (n m : ℕ) (len : length hops ≡ n) where
  pub within_push : ((x y : ℕ) → hop_at hops x ≡ To y → y < m) → ((y : ℕ) → h ≡ To y → y < m) → (x y : ℕ) → hop_at (hops ++ h ∷ []) x ≡ To y → y < m
  within_push old new x y e = ⊎_elim before (λ (g : length hops ≤ x). after g (cases_lt (length hops) x)) (cases_lt x (length hops))
    where
      before : x < length hops → y < m
      before l = old x y (sym (get_or_append_left hops (h ∷ []) NoRoute x l) ∙ e)

      after : length hops ≤ x → (length hops < x) ⊎ (x ≤ length hops) → y < m
      after g (inl l) = let k : NoRoute ≡ To y = sym (get_or_past (hops ++ h ∷ []) x NoRoute (omega (arith, l, length_push hops h))) ∙ e in cc
      after g (inr l) = new y (sym (get_or_push hops h NoRoute x (omega (arith, g, l))) ∙ e)

  pub follows_push : ((x : ℕ) → x < n → named ases (hop_at hops x) ≡ next (name_at ases x)) → named ases h ≡ next (name_at ases n) → (x : ℕ) → x < n + 1 → named ases (hop_at (hops ++ h ∷ []) x) ≡ next (name_at ases x)
  follows_push old new x l = ⊎_elim (λ (b : x < n). ap (named ases) (get_or_append_left hops (h ∷ []) NoRoute x (omega (arith, b, len))) ∙ old x b)
      (λ (g : n ≤ x). let e : n ≡ x = omega (arith, g, l) in ap (named ases) (get_or_push hops h NoRoute x (omega (arith, e, len))) ∙ new ∙ ap (λ k. next (name_at ases k)) e) (cases_lt x n)

pub each_push : (P : ℕ → Group → Type 0) (groups : List Group) (g : Group) (n : ℕ) → length groups ≡ n → ((x : ℕ) → x < n → P x (group_at groups x)) → P n g → (x : ℕ) → x < n + 1 → P x (group_at (groups ++ g ∷ []) x)
each_push P groups g n len old new x l =
    let d : Group = gone in
    ⊎_elim (λ (b : x < n). subst (P x) (sym (get_or_append_left groups (g ∷ []) d x (omega (arith, b, len)))) (old x b))
    (λ (q : n ≤ x). let e : n ≡ x = omega (arith, q, l) in subst (P x) (sym (get_or_push groups g d x (omega (arith, e, len)))) (subst (λ k. P k g) e new)) (cases_lt x n)

-- ---- an AS without customers

module _ (relation : ℕ → ℕ → Option Rel) (a : ℕ) where
  customer_is : (r : Rel) → is_customer r ≡ true → r ≡ Customer
  customer_is Customer e = refl
  customer_is Peer e = cc
  customer_is Provider e = cc

  first : (x : Neighbour) (xs : List Neighbour) → All (λ x. relation a x.asn ≡ Some x.rel) (x ∷ xs) → relation a x.asn ≡ Some x.rel
  first x xs each = each 0 x (omega arith)

  others : (x : Neighbour) (xs : List Neighbour) → All (λ x. relation a x.asn ≡ Some x.rel) (x ∷ xs) → All (λ x. relation a x.asn ≡ Some x.rel) xs
  others x xs each = λ k d l. each (suc k) d (omega arith)

  found : (xs : List Neighbour) → All (λ x. relation a x.asn ≡ Some x.rel) xs → list_any (λ x. is_customer x.rel) xs ≡ true → (b : ℕ) × (relation a b ≡ Some Customer)
  found [] each e = absurd (true≢false (sym e))
  found (x ∷ xs) each e = ⊎_elim (λ (h : is_customer x.rel ≡ true). (x.asn, first x xs each ∙ ap Some (customer_is x.rel h))) (λ h. found xs (others x xs each) h) (or_cases (is_customer x.rel) (list_any (λ x. is_customer x.rel) xs) e)

  listed : (b : ℕ) → relation a b ≡ Some Customer → (xs : List Neighbour) → All (λ x. relation a x.asn ≡ Some x.rel) xs → occurs b (asns xs) ≡ true → list_any (λ x. is_customer x.rel) xs ≡ true
  listed b is [] each e = absurd (true≢false (sym e))
  listed b is (x ∷ xs) each e = ⊎_elim here (λ h. or_right (is_customer x.rel) (list_any (λ x. is_customer x.rel) xs) (listed b is xs (others x xs each) h)) (or_cases (eqb x.asn b) (occurs b (asns xs)) e)
    where
      here : eqb x.asn b ≡ true → list_any (λ x. is_customer x.rel) (x ∷ xs) ≡ true
      here q =
          let k : Some x.rel ≡ Some Customer = sym (first x xs each) ∙ ap (relation a) (eqb-true x.asn b q) ∙ is in
          let r : x.rel ≡ Customer = cc in
          ap (λ t. is_customer t || list_any (λ x. is_customer x.rel) xs) r

  pub stub_is : (xs : List Neighbour) → AreNeighbours relation a xs → IsTrue (not (list_any (λ x. is_customer x.rel) xs)) ↔ IsStub relation a
  stub_is xs all = (no_customer, stub)
    where
      no_customer : IsTrue (not (list_any (λ x. is_customer x.rel) xs)) → IsStub relation a
      no_customer t b e = true≢false (sym t ∙ ap not (listed b e xs all.each (all.complete b Customer e)))

      stub : IsStub relation a → IsTrue (not (list_any (λ x. is_customer x.rel) xs))
      stub s = ⊎_elim (λ (e : list_any (λ x. is_customer x.rel) xs ≡ true). absurd (let q : (b : ℕ) × (relation a b ≡ Some Customer) = found xs all.each e in s q.0 q.1)) (λ e. ap not e) (cases_Bool (list_any (λ x. is_customer x.rel) xs))

-- an AS with a neighbour is an AS of the graph
pub is_end : LinksAreSound → (w : Topology) (a : ℕ) (xs : List Neighbour) → AreNeighbours (relation w) a xs → (length xs == 0) ≡ false → has w a ≡ true
is_end sound w a [] near some = absurd (true≢false some)
is_end sound w a (x ∷ xs) near some = sound.ends w x.asn a (converse x.rel) (sound.alike w a x.asn ∙ ap (option_map converse) (near.each 0 x (omega arith)))
