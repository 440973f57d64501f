-- What two keep of one world has the same routings and next hops.
use Rattle.std.proofs.Common.{◌≡◌, inl, inr, ℕ, zero, suc, ◌≤◌, Bool, true, false, ◌&&◌, cond, IsTrue, is_some, Option, Some, None, List, [], ◌∷◌, refl, sym, ap, ◌∙◌, arith}
use Rattle.std.specs.Prelude.{filter, if◌then◌else◌}
use Rattle.std.specs.Cmp.{eq_by_cmp_equiv}
use Rattle.std.specs.FinMap as fin
use Rattle.std.specs.List.{Contains, reduce}
use Rattle.std.specs.Option.{option_map_or}
use Rattle.std.proofs.lemmas.Bool.{and_parts}
use Rattle.std.proofs.lemmas.Map.Views.{list_any-from_Contains}
use Rattle.net_names.specs.Addresses.{AddrValue}
use Rattle.net_names.specs.Coverage.{holds}
use Rattle.net_names.specs.Prefixes.{PrefixValue}
use Rattle.net_names.specs.Orders.{prefix_total}
use Rattle.stability_laws.specs.Plans.{Plan, announces, has_prefix, prefixes_of}
use Rattle.stability_laws.specs.declared.entry.Entry.{Entry}
use Rattle.data_trace.specs.Hops.{next_hop, second_of, sent_by}
use Rattle.data_trace.specs.declared.kinds.Hop.{Hop}
use Rattle.data_trace.specs.declared.kinds.Hop.TheVariants.{Here, To, NoRoute}
use Rattle.data_trace.proofs.Longest.{IsBestOf, best_of, longer_of}
use Rattle.sim_core.specs.Families.{Family, IsOneFamily}
use Rattle.sim_core.specs.World.{World}

-- the routings of a world are the same at its rounds and prefixes
pub one_family : (w : World) (g h : Family) → IsOneFamily w g → IsOneFamily w h → (round : ℕ) (p : PrefixValue) → 1 ≤ round → round ≤ w.rounds → IsTrue (has_prefix w.plan p) → (a : ℕ) → g round p a ≡ h round p a
one_family w g h x y zero p low high known a = absurd (omega arith)
one_family w g h x y (suc before) p low high known a = y.only g x.is before p (omega arith) known a

pub filter_same : (f g : PrefixValue → Bool) (ps : List PrefixValue) → ((p : PrefixValue) → Contains ps p → f p ≡ g p) → filter f ps ≡ filter g ps
filter_same f g [] e = refl
filter_same f g (x ∷ xs) e =
    let rest : filter f xs ≡ filter g xs = filter_same f g xs (λ p c. e p (suc c.0, omega (arith, c.1), c.2)) in
    λ i. cond (e x (0, omega arith, refl) i) (x ∷ rest i) (rest i)

pub listed_prefix : (plan : Plan) (p : PrefixValue) → Contains (prefixes_of plan) p → IsTrue (has_prefix plan p)
listed_prefix plan p c = fin.contains_key-keys plan.prefixes p ∙ list_any-from_Contains (eq_by_cmp_equiv prefix_total) p (prefixes_of plan) c

-- the next hops are the same where the same is held of the plan's prefixes that hold the address
pub same_next : (plan : Plan) (held now : PrefixValue → ℕ → Option Entry) (addr : AddrValue) (a : ℕ) → ((p : PrefixValue) → IsTrue (has_prefix plan p) → IsTrue (holds p addr) → held p a ≡ now p a) → next_hop plan held addr a ≡ next_hop plan now addr a
same_next plan held now addr a each = by (sent_by plan held addr a) refl
  where
    at : (p : PrefixValue) → Contains (prefixes_of plan) p → (t : Bool) → holds p addr ≡ t → (t && is_some (held p a)) ≡ (t && is_some (now p a))
    at p c true e = ap is_some (each p (listed_prefix plan p c) e)
    at p c false e = refl

    sent : sent_by plan held addr a ≡ sent_by plan now addr a
    sent = ap (reduce longer_of) (filter_same (λ p. holds p addr && is_some (held p a)) (λ p. holds p addr && is_some (now p a)) (prefixes_of plan) (λ p c. at p c (holds p addr) refl))

    hop : PrefixValue → Option Entry → Hop
    hop p h = if announces plan p a then Here else option_map_or To (second_of h) NoRoute

    by : (o : Option PrefixValue) → sent_by plan held addr a ≡ o → next_hop plan held addr a ≡ next_hop plan now addr a
    by None e = ap (λ o. option_map_or (λ p. hop p (held p a)) o NoRoute) e ∙ sym (ap (λ o. option_map_or (λ p. hop p (now p a)) o NoRoute) (sym sent ∙ e))
    by (Some p) e =
        let best : IsBestOf (λ q. holds q addr && is_some (held q a)) (prefixes_of plan) None p = best_of (λ q. holds q addr && is_some (held q a)) (prefixes_of plan) p e in
        let (there, passes) : Contains (prefixes_of plan) p × ((holds p addr && is_some (held p a)) ≡ true) = elim best.among [ inl h ↦ absurd (let k : None ≡ Some p = h in cc) | inr h ↦ h ] in
        ap (λ o. option_map_or (λ q. hop q (held q a)) o NoRoute) e ∙ (ap (hop p) (each p (listed_prefix plan p there) (and_parts (holds p addr) (is_some (held p a)) passes).0) ∙ sym (ap (λ o. option_map_or (λ q. hop q (now q a)) o NoRoute) (sym sent ∙ e)))
