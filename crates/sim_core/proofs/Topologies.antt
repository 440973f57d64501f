-- The graph in which the named ASes are marked.
use Rattle.std.proofs.Common.{◌≡◌, ℕ, Bool, true, false, ◌||◌, ◌==◌, List, [], ◌∷◌, None, refl, sym, ap, ◌∙◌}
use Rattle.std.proofs.lemmas.Cmp.{nat_cmp_total}
use Rattle.std.specs.Ordering.{nat_cmp, eq_by_cmp}
use Rattle.std.specs.FinSet as set
use Rattle.std.specs.Cmp.{unsigned_tied, nat_eq_equiv}
use Rattle.net_names.specs.Links.{LinkMap}
use Rattle.net_names.specs.Numbers.{occurs}
use Rattle.as_graph.specs.Topology.{Topology, unmarked, with_mark}
use Rattle.sim_core.specs.Marking.{marked}
use Rattle.net_names.proofs.Shared.{or_false}

or_turned : (a b c : Bool) → (b || (a || c)) ≡ ((a || b) || c)
or_turned true true c = refl
or_turned true false c = refl
or_turned false b c = refl

pub links-marked : (g : Topology) (names : List ℕ) → (marked g names).links ≡ g.links
links-marked g [] = refl
links-marked g (a ∷ names) = links-marked (with_mark g a) names

room-marked : (g : Topology) (names : List ℕ) → (marked g names).room ≡ g.room
room-marked g [] = refl
room-marked g (a ∷ names) = room-marked (with_mark g a) names

is_mark : (q a : ℕ) → eq_by_cmp nat_cmp q a ≡ (a == q)
is_mark q a = unsigned_tied q a ∙ nat_eq_equiv.symm q a

contains-marked : (g : Topology) (names : List ℕ) (q : ℕ) → set.contains (marked g names).marked q ≡ (occurs q names || set.contains g.marked q)
contains-marked g [] q = refl
contains-marked g (a ∷ names) q =
    contains-marked (with_mark g a) names q
    ∙ ap (λ b. occurs q names || b) (set.contains-insert nat_cmp_total g.marked a q ∙ ap (λ b. b || set.contains g.marked q) (is_mark q a))
    ∙ or_turned (a == q) (occurs q names) (set.contains g.marked q)

-- the marks are those of any list with the same numbers
pub marked_are : (links : LinkMap) (names others : List ℕ) → ((q : ℕ) → occurs q others ≡ occurs q names) → marked (unmarked links) names ≡ record { links = links; marked = set.from_list others; room = None }
marked_are links names others alike =
    let marks : (marked (unmarked links) names).marked ≡ set.from_list others = set.same_set nat_cmp_total set.nat_cmp-IsAntisymmetric _ _ (λ q.
    contains-marked (unmarked links) names q
    ∙ ap (λ b. occurs q names || b) (set.contains-empty nat_cmp q)
    ∙ or_false (occurs q names)
    ∙ sym (set.contains-from_list_nat others q ∙ alike q)) in
    λ i. record { links = links-marked (unmarked links) names i; marked = marks i; room = room-marked (unmarked links) names i }
