-- What an AS chooses, one place after the other.
use Rattle.std.proofs.Common.{◌≡◌, ◌≢◌, ◌⊎◌, ℕ, ◌+◌, ◌-◌, ◌<◌, ◌≤◌, Bool, true, false, ◌&&◌, ◌==◌, cond, inl, inr, Option, Some, None, List, [], ◌∷◌, All, Ordering, Less, Equal, Greater, length, take, drop, slice_get, slice_index, slice_index_or, nat_eq, take_all, arith, refl, sym, ◌∙◌, ap, subst}
use Rattle.std.specs.List.{IsDistinct}
use Rattle.std.specs.Ordering.{nat_cmp, is_lt, ordering_then, MatchOrdering}
use Rattle.std.specs.Cmp.{ranks}
use Rattle.std.specs.Cmp.Lexicographic.{slice_cmp}
use Rattle.std.proofs.lemmas.Bool.{cases_order, eq-eqb, eqb-false, eqb-true, ne_eqb, or_cases, or_right}
use Rattle.std.proofs.lemmas.List.Elements.{All-drop, All-get_or, All-take}
use Rattle.std.proofs.lemmas.List.Folds.{Any-from_list_any, list_any_kept, list_any_more}
use Rattle.std.proofs.lemmas.Option.{get_or_from_slice_get}
use Rattle.std.proofs.lemmas.Map.Keys.{apart_from_distinct}
use Rattle.net_names.specs.Numbers.{occurs}
use Rattle.net_names.specs.declared.routes.Rel.{Rel}
use Rattle.net_names.specs.declared.routes.Rel.TheVariants.{Customer, Peer, Provider}
use Rattle.net_names.specs.declared.routes.State.{State}
use Rattle.policy_laws.specs.Plain.{IsOf, TakesPlainly}
use Rattle.policy_laws.specs.Policy.{Policy, RanksOffers}
use Rattle.policy_laws.specs.declared.policy.View.{View}
use Rattle.routing_tree.specs.declared.choosing.Best.{Best}
use Rattle.routing_tree.specs.declared.choosing.Shortest.{Shortest}
use Rattle.routing_tree.specs.declared.links.PlaceLists.{PlaceLists}
use Rattle.routing_tree.specs.declared.tree.RoutingTree.{RoutingTree}
use Rattle.routing_tree.specs.Chosen.{AreStatesOf, ComesFirst, ComesLater, IsChosen, IsShorterOf, best_at, best_from, better_of, seen_at, weighed}
use Rattle.routing_tree.specs.Links.{list_at}
use Rattle.routing_tree.specs.Trees.{IsShort}

-- a place that is among the first i + 1 of a list is among the first i, or is the one at i
occurs_split : (xs : List ℕ) (i m : ℕ) → i < length xs → occurs m (take (i + 1) xs) ≡ true → (occurs m (take i xs) ≡ true) ⊎ (m ≡ slice_index xs i)
occurs_split xs i m lt is = elim (or_cases (occurs m (take i xs)) (slice_index xs i == m) (sym (list_any_more (λ y. y == m) xs i 0 lt) ∙ is)) [
  | inl e ↦ inl e
  | inr e ↦ inr (sym (eqb-true (slice_index xs i) m e))
]

occurs_kept : (xs : List ℕ) (i m : ℕ) → occurs m (take i xs) ≡ true → occurs m (take (i + 1) xs) ≡ true
occurs_kept xs i m is = list_any_kept (λ y. y == m) xs i is

occurs_here : (xs : List ℕ) (i : ℕ) → i < length xs → occurs (slice_index xs i) (take (i + 1) xs) ≡ true
occurs_here xs i lt = list_any_more (λ y. y == slice_index xs i) xs i 0 lt ∙ or_right (occurs (slice_index xs i) (take i xs)) _ (eq-eqb (slice_index xs i) (slice_index xs i) refl)

-- what holds of each place of all lists holds of those of the list at a place
all_at : (n : ℕ) (l : PlaceLists) (k : ℕ) → All (λ j. j < n) l.items.items → All (λ j. j < n) (list_at l k)
all_at n l k all =
    All-take (λ (m : ℕ). m < n) (slice_index l.starts.items (k + 1) - slice_index l.starts.items k) (drop (slice_index l.starts.items k) l.items.items) (All-drop (λ (m : ℕ). m < n) (slice_index l.starts.items k) l.items.items all)

-- a place that is among those of the list at a place is inside
pub inside : (n : ℕ) (l : PlaceLists) (k : ℕ) → All (λ j. j < n) l.items.items → (j : ℕ) → occurs j (list_at l k) ≡ true → j < n
inside n l k all j is =
    let (i, x, within, here, same) = Any-from_list_any (λ y. y == j) (list_at l k) is in
    let below : slice_index_or (list_at l k) i x < n = All-get_or (λ (m : ℕ). m < n) (list_at l k) i x within (all_at n l k all) in
    let e : x ≡ j = eqb-true x j same in
    omega (arith, below, here, e)

-- the place at an index of the list at a place is inside
pub inside_at : (n : ℕ) (l : PlaceLists) (k : ℕ) (xs : List ℕ) (i : ℕ) → All (λ j. j < n) l.items.items → xs ≡ list_at l k → i < length xs → slice_index xs i < n
inside_at n l k xs i all is lt = All-get_or (λ (m : ℕ). m < n) xs i 0 lt (subst (All (λ (m : ℕ). m < n)) (sym is) (all_at n l k all))

-- the view of an AS that is seen is that of its offer
pub view_seen : (ases : List ℕ) (t : RoutingTree) (r : Rel) (j : ℕ) (v : View) → seen_at ases t r j ≡ Some v → (best_from ases t r j).view ≡ v
view_seen ases t r j v = by (slice_index t.lengths.items j == 0)
  where
    by : (b : Bool) → cond b None (Some (best_from ases t r j).view) ≡ Some v → (best_from ases t r j).view ≡ v
    by true e = cc
    by false e = cc

-- an AS that holds something is seen with its offer
pub seen_there : (ases : List ℕ) (t : RoutingTree) (r : Rel) (j : ℕ) → slice_index t.lengths.items j ≢ 0 → seen_at ases t r j ≡ Some (best_from ases t r j).view
seen_there ases t r j some = ap (λ b. cond b None (Some (best_from ases t r j).view)) (ne_eqb (slice_index t.lengths.items j) 0 some)

-- an AS that holds nothing is not seen
pub unseen : (ases : List ℕ) (t : RoutingTree) (r : Rel) (j : ℕ) (v : View) → slice_index t.lengths.items j ≡ 0 → seen_at ases t r j ≡ Some v → ⊥
unseen ases t r j v none seen =
    let e : None ≡ Some v = sym (ap (λ b. cond b None (Some (best_from ases t r j).view)) (eq-eqb (slice_index t.lengths.items j) 0 none)) ∙ seen in cc

-- no view of an AS at which the chooser looks and which it accepts comes before this one, which is such a view
pub record IsLeast (p : Policy) (ases : List ℕ) (t : RoutingTree) (Looks : Rel → ℕ → Type 0) (b : Best) : Type 0 where
  pub looks : Looks b.view.rel b.place
  pub seen : seen_at ases t b.view.rel b.place ≡ Some b.view
  pub accepted : p.accepts b.view ≡ true
  pub least : (r : Rel) (j : ℕ) (v : View) → Looks r j → seen_at ases t r j ≡ Some v → p.accepts v ≡ true → p.before v b.view ≡ false

-- the best so far is such a one, and there is none only if nothing that is seen is accepted
abbrev pub IsBest : Policy → List ℕ → RoutingTree → (Rel → ℕ → Type 0) → Option Best → Type 0
IsBest p ases t Looks None = (r : Rel) (j : ℕ) (v : View) → Looks r j → seen_at ases t r j ≡ Some v → p.accepts v ≡ false
IsBest p ases t Looks (Some b) = IsLeast p ases t Looks b

module _ (p : Policy) (ases : List ℕ) (t : RoutingTree) (law : RanksOffers p) (Looks More : Rel → ℕ → Type 0) (more : (r : Rel) (j : ℕ) → Looks r j → More r j) where
  -- the best stays the best where nothing more is seen
  pub kept : (best : Option Best) → ((r : Rel) (j : ℕ) (v : View) → More r j → seen_at ases t r j ≡ Some v → Looks r j) → IsBest p ases t Looks best → IsBest p ases t More best
  kept None back h = λ r j v l s. h r j v (back r j v l s) s
  kept (Some b) back h = record {
    looks = more b.view.rel b.place h.looks;
    seen = h.seen;
    accepted = h.accepted;
    least = λ r j v l s a. h.least r j v (back r j v l s) s a;
  }

  module _ (r0 : Rel) (j0 : ℕ) (new : More r0 j0) (split : (r : Rel) (j : ℕ) → More r j → Looks r j ⊎ ((r ≡ r0) × (j ≡ j0))) where
    -- what is seen at the new place is its offer
    at_new : (r : Rel) (j : ℕ) (v : View) → (r ≡ r0) × (j ≡ j0) → seen_at ases t r j ≡ Some v → (best_from ases t r0 j0).view ≡ v
    at_new r j v (e, f) s = view_seen ases t r0 j0 v ((λ i. seen_at ases t (sym e i) (sym f i)) ∙ s)

    -- the new one is the best where none before it comes first
    replaced : slice_index t.lengths.items j0 ≢ 0 → p.accepts (best_from ases t r0 j0).view ≡ true → ((r : Rel) (j : ℕ) (v : View) → Looks r j → seen_at ases t r j ≡ Some v → p.accepts v ≡ true → p.before v (best_from ases t r0 j0).view ≡ false) → IsLeast p ases t More (best_from ases t r0 j0)
    replaced some ok below = record {
      looks = new;
      seen = seen_there ases t r0 j0 some;
      accepted = ok;
      least = λ r j v l s a. elim (split r j l) [
        | inl e ↦ below r j v e s a
        | inr e ↦ subst (λ x. p.before x (best_from ases t r0 j0).view ≡ false) (at_new r j v e s) (law.irreflexive (best_from ases t r0 j0).view)
      ];
    }

    -- the old one stays the best where the new one is not accepted or does not come first
    stays : (b : Best) → (p.accepts (best_from ases t r0 j0).view ≡ true → p.before (best_from ases t r0 j0).view b.view ≡ false) → IsLeast p ases t Looks b → IsLeast p ases t More b
    stays b not h = record {
      looks = more b.view.rel b.place h.looks;
      seen = h.seen;
      accepted = h.accepted;
      least = λ r j v l s a. elim (split r j l) [
        | inl e ↦ h.least r j v e s a
        | inr e ↦ subst (λ x. p.before x b.view ≡ false) (at_new r j v e s) (not (ap p.accepts (at_new r j v e s) ∙ a))
      ];
    }

    -- what does not come before the old one does not come before one that does
    behind : (b : Best) (v x : View) (q : Bool) → p.before v x ≡ q → p.before x b.view ≡ true → p.before v b.view ≡ false → q ≡ false
    behind b v x true e first not = (let f : p.before v b.view ≡ true = law.transitive v x b.view e first in cc)
    behind b v x false e first not = refl

    first_weighed : slice_index t.lengths.items j0 ≢ 0 → (a : Bool) → p.accepts (best_from ases t r0 j0).view ≡ a → IsBest p ases t Looks None → IsBest p ases t More (cond a (Some (best_from ases t r0 j0)) None)
    first_weighed some true ok h = replaced some ok (λ r j v l s a. (let f : p.accepts v ≡ false = h r j v l s in cc))
    first_weighed some false refused h = λ r j v l s. elim (split r j l) [
      | inl e ↦ h r j v e s
      | inr e ↦ sym (ap p.accepts (at_new r j v e s)) ∙ refused
    ]

    next_weighed : slice_index t.lengths.items j0 ≢ 0 → (b : Best) (a q : Bool) → p.accepts (best_from ases t r0 j0).view ≡ a → p.before (best_from ases t r0 j0).view b.view ≡ q → IsLeast p ases t Looks b → IsBest p ases t More (cond (a && q) (Some (best_from ases t r0 j0)) (Some b))
    next_weighed some b true true ok first h = replaced some ok (λ r j v l s a. behind b v (best_from ases t r0 j0).view (p.before v (best_from ases t r0 j0).view) refl first (h.least r j v l s a))
    next_weighed some b true false ok not h = stays b (λ a. not) h
    next_weighed some b false q refused e h = stays b (λ a. (let f : false ≡ true = sym refused ∙ a in cc)) h

    by_length : (best : Option Best) (z : Bool) → (slice_index t.lengths.items j0 == 0) ≡ z → IsBest p ases t Looks best → IsBest p ases t More (cond z best (better_of p best (best_from ases t r0 j0)))
    by_length best true e h = kept best (λ r j v l s. elim (split r j l) [
      | inl f ↦ f
      | inr f ↦ absurd (unseen ases t r j v (ap (slice_index t.lengths.items) f.1 ∙ eqb-true (slice_index t.lengths.items j0) 0 e) s)
    ]) h
    by_length None false e h = first_weighed (eqb-false (slice_index t.lengths.items j0) 0 e) (p.accepts (best_from ases t r0 j0).view) refl h
    by_length (Some b) false e h = next_weighed (eqb-false (slice_index t.lengths.items j0) 0 e) b (p.accepts (best_from ases t r0 j0).view) (p.before (best_from ases t r0 j0).view b.view) refl refl h

    -- the better one of the best so far and of what is seen at one more place is the best
    pub weighed_best : (best : Option Best) → IsBest p ases t Looks best → IsBest p ases t More (weighed p ases t best r0 j0)
    weighed_best best h = by_length best (slice_index t.lengths.items j0 == 0) refl h

-- at different places stand different ASes
apart : (ases : List ℕ) (i j : ℕ) → IsDistinct nat_eq ases → i < length ases → j < length ases → slice_index ases i ≡ slice_index ases j → i ≡ j
apart ases i j distinct lt lt' same = elim (cases_order i j) [
  | inl e ↦ e
  | inr e ↦ absurd (elim e [
    | inl f ↦ eqb-false _ _ (apart_from_distinct nat_eq ases i j 0 distinct f lt') same
    | inr f ↦ eqb-false _ _ (apart_from_distinct nat_eq ases j i 0 distinct f lt) (sym same)
  ])
]

-- the best of all is the one that is chosen, where no AS stands at two places
pub best_chosen : (p : Policy) (ases : List ℕ) (t : RoutingTree) → RanksOffers p → (Looks : Rel → ℕ → Type 0) → ((r : Rel) (j : ℕ) → Looks r j → j < length ases) → (best : Option Best) → IsBest p ases t Looks best → IsDistinct nat_eq ases → IsChosen p ases t Looks best
best_chosen p ases t law Looks within None h distinct = h
best_chosen p ases t law Looks within (Some b) h distinct = record {
  looks = h.looks;
  seen = h.seen;
  accepted = h.accepted;
  first = λ r j v l s a other.
      let differ : b.view.neighbour ≢ v.neighbour = λ same. other (apart ases j b.place distinct (within r j l) (within b.view.rel b.place h.looks)
      (ap (λ (x : View). x.neighbour) (view_seen ases t r j v s) ∙ sym same ∙ sym (ap (λ (x : View). x.neighbour) (view_seen ases t b.view.rel b.place b.view h.seen)))) in
      elim (law.total b.view v differ) [
        | inl e ↦ e
        | inr e ↦ (let f : p.before v b.view ≡ false = h.least r j v l s a in cc)
      ];
}

-- a chooser looks at customers at these places
abbrev pub LooksUp : List ℕ → Rel → ℕ → Type 0
LooksUp xs r j = (r ≡ Customer) × (occurs j xs ≡ true)

-- a chooser looks at peers at these places that hold an own or a customer's route, and at providers at those
abbrev pub LooksDown : RoutingTree → List ℕ → List ℕ → Rel → ℕ → Type 0
LooksDown t ps qs r j = ((r ≡ Peer) × (occurs j ps ≡ true) × (slice_get t.lows.items j ≡ Some true)) ⊎ ((r ≡ Provider) × (occurs j qs ≡ true))

module _ (p : Policy) (ases : List ℕ) (t : RoutingTree) (law : RanksOffers p) (xs : List ℕ) (i : ℕ) (lt : i < length xs) where
  pub customer_weighed : (best new : Option Best) → new ≡ weighed p ases t best Customer (slice_index xs i) → IsBest p ases t (LooksUp (take i xs)) best → IsBest p ases t (LooksUp (take (i + 1) xs)) new
  customer_weighed best new e h = subst (IsBest p ases t (LooksUp (take (i + 1) xs))) (sym e)
      (weighed_best p ases t law (LooksUp (take i xs)) (LooksUp (take (i + 1) xs)) (λ r j l. (l.0, occurs_kept xs i j l.1)) Customer (slice_index xs i) (refl, occurs_here xs i lt)
      (λ r j l. elim (occurs_split xs i j lt l.1) [ inl f ↦ inl (l.0, f) | inr f ↦ inr (l.0, f) ]) best h)

  pub provider_weighed : (ps : List ℕ) (best new : Option Best) → new ≡ weighed p ases t best Provider (slice_index xs i) → IsBest p ases t (LooksDown t ps (take i xs)) best → IsBest p ases t (LooksDown t ps (take (i + 1) xs)) new
  provider_weighed ps best new e h = subst (IsBest p ases t (LooksDown t ps (take (i + 1) xs))) (sym e)
      (weighed_best p ases t law (LooksDown t ps (take i xs)) (LooksDown t ps (take (i + 1) xs)) (λ r j l. elim l [ inl f ↦ inl f | inr f ↦ inr (f.0, occurs_kept xs i j f.1) ]) Provider (slice_index xs i) (inr (refl, occurs_here xs i lt))
      (λ r j l. elim l [
        | inl f ↦ inl (inl f)
        | inr f ↦ elim (occurs_split xs i j lt f.1) [ inl g ↦ inl (inr (f.0, g)) | inr g ↦ inr (f.0, g) ]
      ]) best h)

  -- a peer that holds an own or a customer's route, or does not
  low_or_not : (o : Option Bool) → (o ≡ Some true) ⊎ (o ≢ Some true)
  low_or_not None = inr (λ e. cc)
  low_or_not (Some true) = inl refl
  low_or_not (Some false) = inr (λ e. cc)

  peers_more : (r : Rel) (j : ℕ) → LooksDown t (take i xs) [] r j → LooksDown t (take (i + 1) xs) [] r j
  peers_more r j l = elim l [ inl f ↦ inl (f.0, occurs_kept xs i j f.1, f.2) | inr f ↦ inr f ]

  pub peer_weighed : (best new : Option Best) → (slice_get t.lows.items (slice_index xs i) ≡ Some true → new ≡ weighed p ases t best Peer (slice_index xs i)) → (slice_get t.lows.items (slice_index xs i) ≢ Some true → new ≡ best) →
      IsBest p ases t (LooksDown t (take i xs) []) best → IsBest p ases t (LooksDown t (take (i + 1) xs) []) new
  peer_weighed best new low other h = elim (low_or_not (slice_get t.lows.items (slice_index xs i))) [
    | inl is ↦ subst (IsBest p ases t (LooksDown t (take (i + 1) xs) [])) (sym (low is))
        (weighed_best p ases t law (LooksDown t (take i xs) []) (LooksDown t (take (i + 1) xs) []) peers_more Peer (slice_index xs i) (inl (refl, occurs_here xs i lt, is))
        (λ r j l. elim l [
          | inl f ↦ elim (occurs_split xs i j lt f.1) [ inl g ↦ inl (inl (f.0, g, f.2)) | inr g ↦ inr (f.0, g) ]
          | inr f ↦ inl (inr f)
        ]) best h)
    | inr is ↦ subst (IsBest p ases t (LooksDown t (take (i + 1) xs) [])) (sym (other is))
        (kept p ases t law (LooksDown t (take i xs) []) (LooksDown t (take (i + 1) xs) []) peers_more best
        (λ r j v l s. elim l [
          | inl f ↦ elim (occurs_split xs i j lt f.1) [ inl g ↦ inl (f.0, g, f.2) | inr g ↦ absurd (is (ap (slice_get t.lows.items) (sym g) ∙ f.2)) ]
          | inr f ↦ inr f
        ]) h)
  ]

-- no peer of one more place holds an own or a customer's route
pub none_low : (lows : List Bool) (xs : List ℕ) (i : ℕ) → i < length xs → slice_get lows (slice_index xs i) ≢ Some true → ((j : ℕ) → occurs j (take i xs) ≡ true → slice_get lows j ≢ Some true) → (j : ℕ) → occurs j (take (i + 1) xs) ≡ true → slice_get lows j ≢ Some true
none_low lows xs i lt here before j is low = elim (occurs_split xs i j lt is) [
  | inl e ↦ before j e low
  | inr e ↦ here (ap (slice_get lows) (sym e) ∙ low)
]

-- what is read as false is not true
pub not_low : (lows : List Bool) (k : ℕ) → slice_index_or lows k false ≡ false → slice_get lows k ≢ Some true
not_low lows k is low = (let e : slice_index_or lows k false ≡ true = get_or_from_slice_get lows k true false low in cc)

take_none : (xs : List ℕ) → take 0 xs ≡ []
take_none [] = refl
take_none (x ∷ xs) = refl

-- no place is among the first 0
pub none_yet : (xs : List ℕ) (j : ℕ) → occurs j (take 0 xs) ≡ true → ⊥
none_yet xs j is = (let e : false ≡ true = ap (occurs j) (sym (take_none xs)) ∙ is in cc)

pub no_customer_yet : (p : Policy) (ases : List ℕ) (t : RoutingTree) (xs : List ℕ) → IsBest p ases t (LooksUp (take 0 xs)) None
no_customer_yet p ases t xs r j v l s = absurd (none_yet xs j l.1)

pub no_peer_yet : (p : Policy) (ases : List ℕ) (t : RoutingTree) (xs : List ℕ) → IsBest p ases t (LooksDown t (take 0 xs) []) None
no_peer_yet p ases t xs r j v l s = absurd (elim l [ inl f ↦ none_yet xs j f.1 | inr f ↦ (let e : false ≡ true = f.1 in cc) ])

-- behind all peers come the providers
pub peers_done : (p : Policy) (ases : List ℕ) (t : RoutingTree) (xs ps qs : List ℕ) (i : ℕ) (best : Option Best) → xs ≡ ps → length xs ≤ i → IsBest p ases t (LooksDown t (take i xs) []) best → IsBest p ases t (LooksDown t ps (take 0 qs)) best
peers_done p ases t xs ps qs i best is all h =
    subst (λ ys. IsBest p ases t (LooksDown t ps ys) best) (sym (take_none qs)) (subst (λ ys. IsBest p ases t (LooksDown t ys []) best) (take_all i xs all ∙ is) h)

-- the shortest path of the providers at these places, and of the shortest that of the lowest number
pub record IsShortest (ases : List ℕ) (t : RoutingTree) (xs : List ℕ) (s : Shortest) : Type 0 where
  pub among : occurs s.place xs ≡ true
  pub length_is : s.length ≡ slice_index t.lengths.items s.place
  pub some : 0 < s.length
  pub least : (j : ℕ) → occurs j xs ≡ true → 0 < slice_index t.lengths.items j → ComesLater ases t j s

-- of these providers none holds anything, or this is the shortest path
pub data IsShortestSoFar (ases : List ℕ) (t : RoutingTree) (xs : List ℕ) (s : Shortest) : Type 0 where
  nothing : s.length ≡ 4294967295 → ((j : ℕ) → occurs j xs ≡ true → slice_index t.lengths.items j ≡ 0) → IsShortestSoFar ases t xs s
  something : IsShortest ases t xs s → IsShortestSoFar ases t xs s

module _ (ases : List ℕ) (t : RoutingTree) (short : IsShort t) (xs : List ℕ) (i : ℕ) (lt : i < length xs) where
  -- who comes behind the old one comes behind one that is before that
  later : (j : ℕ) (old : Shortest) → ComesFirst ases t (slice_index xs i) old → ComesLater ases t j old → ComesLater ases t j (record { length = slice_index t.lengths.items (slice_index xs i); place = slice_index xs i })
  later j old (inl a) (inl b) = inl (omega arith)
  later j old (inl a) (inr b) = inl (omega (arith, b.0))
  later j old (inr a) (inl b) = inl (omega (arith, a.0))
  later j old (inr a) (inr b) = inr (a.0 ∙ b.0, omega (arith, a.1, b.1))

  newer : (old : Shortest) → 0 < slice_index t.lengths.items (slice_index xs i) → ComesFirst ases t (slice_index xs i) old → IsShortestSoFar ases t (take i xs) old → IsShortest ases t (take (i + 1) xs) (record { length = slice_index t.lengths.items (slice_index xs i); place = slice_index xs i })
  newer old some first so_far = record {
    among = occurs_here xs i lt;
    length_is = refl;
    some = some;
    least = λ j is holds. elim (occurs_split xs i j lt is) [
      | inl e ↦ elim so_far [
        | nothing most none ↦ absurd (let z : slice_index t.lengths.items j ≡ 0 = none j e in omega arith)
        | something h ↦ later j old first (h.least j e holds)
      ]
      | inr e ↦ inr (ap (slice_index t.lengths.items) (sym e), let z : slice_index ases (slice_index xs i) ≡ slice_index ases j = ap (slice_index ases) (sym e) in omega arith)
    ];
  }

  older : (old : Shortest) → (slice_index t.lengths.items (slice_index xs i) ≡ 0) ⊎ ComesLater ases t (slice_index xs i) old → IsShortestSoFar ases t (take i xs) old → IsShortestSoFar ases t (take (i + 1) xs) old
  older old stays (nothing most none) = nothing most (λ j is. elim (occurs_split xs i j lt is) [
    | inl e ↦ none j e
    | inr e ↦ ap (slice_index t.lengths.items) e ∙ elim stays [
      | inl z ↦ z
      | inr l ↦ absurd (let below : slice_index t.lengths.items (slice_index xs i) < 4294967295 = short (slice_index xs i) in elim l [ inl f ↦ omega arith | inr f ↦ omega (arith, f.0) ])
    ]
  ])
  older old stays (something h) = something (record {
    among = occurs_kept xs i old.place h.among;
    length_is = h.length_is;
    some = h.some;
    least = λ j is holds. elim (occurs_split xs i j lt is) [
      | inl e ↦ h.least j e holds
      | inr e ↦ elim stays [
        | inl z ↦ absurd (let f : slice_index t.lengths.items j ≡ slice_index t.lengths.items (slice_index xs i) = ap (slice_index t.lengths.items) e in omega arith)
        | inr l ↦ subst (λ k. ComesLater ases t k old) (sym e) l
      ]
    ];
  })

  pub shortest_more : (old new : Shortest) → IsShorterOf ases t (slice_index xs i) old new → IsShortestSoFar ases t (take i xs) old → IsShortestSoFar ases t (take (i + 1) xs) new
  shortest_more old new (inl e) h = subst (IsShortestSoFar ases t (take (i + 1) xs)) (sym e.0) (something (newer old e.1 e.2 h))
  shortest_more old new (inr e) h = subst (IsShortestSoFar ases t (take (i + 1) xs)) (sym e.0) (older old e.1 h)

-- the shorter one of two paths is of one of the two places
pub place_kept : (ases : List ℕ) (t : RoutingTree) (n j : ℕ) (old new : Shortest) → IsShorterOf ases t j old new → j < n → old.place < n → new.place < n
place_kept ases t n j old new (inl e) here there = subst (λ (s : Shortest). s.place < n) (sym e.0) here
place_kept ases t n j old new (inr e) here there = subst (λ (s : Shortest). s.place < n) (sym e.0) there

less : (x y : ℕ) → x < y → nat_cmp x y ≡ Less
less x y lt = by (nat_cmp x y) (ranks x y)
  where
    by : (o : Ordering) → MatchOrdering o (x < y) (x ≡ y) (y < x) → o ≡ Less
    by Less h = refl
    by Equal h = absurd (omega arith)
    by Greater h = absurd (omega arith)

tied : (x y : ℕ) → x ≡ y → nat_cmp x y ≡ Equal
tied x y is = by (nat_cmp x y) (ranks x y)
  where
    by : (o : Ordering) → MatchOrdering o (x < y) (x ≡ y) (y < x) → o ≡ Equal
    by Less h = absurd (omega arith)
    by Equal h = refl
    by Greater h = absurd (omega arith)

-- the shorter path comes first, and of equal ones that of the lower number
keys_less : (a b m n : ℕ) → (a < b) ⊎ ((a ≡ b) × (m < n)) → is_lt (slice_cmp nat_cmp ((a + 1) ∷ m ∷ []) ((b + 1) ∷ n ∷ [])) ≡ true
keys_less a b m n (inl lt) = ap (λ (o : Ordering). is_lt (ordering_then o (ordering_then (nat_cmp m n) Equal))) (less (a + 1) (b + 1) (omega arith))
keys_less a b m n (inr (is, lt)) = (λ i. is_lt (ordering_then (tied (a + 1) (b + 1) (ap (λ x. x + 1) is) i) (ordering_then (less m n lt i) Equal)))

-- of those that come later the others than this one come behind it
others_later : (ases : List ℕ) (t : RoutingTree) (j : ℕ) (s : Shortest) → s.length ≡ slice_index t.lengths.items s.place → slice_index ases s.place ≢ slice_index ases j → ComesLater ases t j s → (slice_index t.lengths.items s.place < slice_index t.lengths.items j) ⊎ ((slice_index t.lengths.items s.place ≡ slice_index t.lengths.items j) × (slice_index ases s.place < slice_index ases j))
others_later ases t j s is differ (inl a) = inl (omega arith)
others_later ases t j s is differ (inr (a, b)) = inr (sym is ∙ a, omega (arith, b, differ))

module _ (p : Policy) (all : Option State) (ases : List ℕ) (t : RoutingTree) (takes : TakesPlainly p (IsOf all)) (states : AreStatesOf all t) (distinct : IsDistinct nat_eq ases) (ps qs : List ℕ) (none_low : (j : ℕ) → occurs j ps ≡ true → slice_get t.lows.items j ≢ Some true) where
  -- a policy that takes providers' offers plainly chooses nothing where no provider holds anything
  pub nothing_chosen : ((j : ℕ) → occurs j qs ≡ true → slice_index t.lengths.items j ≡ 0) → IsChosen p ases t (LooksDown t ps qs) None
  nothing_chosen none r j v l s = elim l [
    | inl f ↦ absurd (none_low j f.1 f.2)
    | inr f ↦ absurd (unseen ases t r j v (none j f.1) s)
  ]

  -- and else the shortest path
  pub shortest_chosen : ((j : ℕ) → occurs j qs ≡ true → j < length ases) → (s : Shortest) → IsShortest ases t qs s → IsChosen p ases t (LooksDown t ps qs) (Some (best_at ases t s.place))
  shortest_chosen within s h =
      let holds : 0 < slice_index t.lengths.items s.place = (let e = h.length_is in let g = h.some in omega arith) in
      record {
        looks = inr (refl, h.among);
        seen = seen_there ases t Provider s.place (λ e. (let bad : ⊥ = omega arith in bad));
        accepted = takes.accepts (best_at ases t s.place).view refl (states s.place holds);
        first = λ r j v l s' a other. elim l [
          | inl f ↦ absurd (none_low j f.1 f.2)
          | inr f ↦ before_it r j v s' other f.0 f.1
        ];
      }
    where
      before_it : (r : Rel) (j : ℕ) (v : View) → seen_at ases t r j ≡ Some v → j ≢ s.place → r ≡ Provider → occurs j qs ≡ true → p.before (best_at ases t s.place).view v ≡ true
      before_it r j v seen other is among =
          let same : (best_at ases t j).view ≡ v = (λ i. (best_from ases t (sym is i) j).view) ∙ view_seen ases t r j v seen in
          let some : slice_index t.lengths.items j ≢ 0 = λ z. unseen ases t r j v z seen in
          let more : 0 < slice_index t.lengths.items j = omega arith in
          let least : 0 < slice_index t.lengths.items s.place = (let e = h.length_is in let g = h.some in omega arith) in
          let differ : slice_index ases s.place ≢ slice_index ases j = λ e. other (apart ases j s.place distinct (within j among) (within s.place h.among) (sym e)) in
          subst (λ x. p.before (best_at ases t s.place).view x ≡ true) same
          (takes.before (best_at ases t s.place).view (best_at ases t j).view refl refl (states s.place least) (states j more)
          ∙ keys_less (slice_index t.lengths.items s.place) (slice_index t.lengths.items j) (slice_index ases s.place) (slice_index ases j) (others_later ases t j s h.length_is differ (h.least j among more)))

  -- where the length is still the largest, nothing is chosen
  pub so_far_none : IsShort t → (s : Shortest) → s.length ≡ 4294967295 → IsShortestSoFar ases t qs s → IsChosen p ases t (LooksDown t ps qs) None
  so_far_none short s end (nothing most none) = nothing_chosen none
  so_far_none short s end (something h) = (let e = h.length_is in let below : slice_index t.lengths.items s.place < 4294967295 = short s.place in absurd (omega arith))

  -- and where it is not, the shortest path is
  pub so_far_some : ((j : ℕ) → occurs j qs ≡ true → j < length ases) → (s : Shortest) → s.length ≢ 4294967295 → IsShortestSoFar ases t qs s → IsChosen p ases t (LooksDown t ps qs) (Some (best_at ases t s.place))
  so_far_some within s other (nothing most none) = absurd (other most)
  so_far_some within s other (something h) = shortest_chosen within s h
