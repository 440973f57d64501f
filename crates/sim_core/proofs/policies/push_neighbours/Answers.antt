use Rattle.std.proofs.Common.{◌≡◌, ◌++◌, ◌∷◌, [], ℕ, List, true, inl, inr, Some, sym, subst}
use Rattle.as_graph.specs.Topology.{relation}
use Rattle.as_graph.specs.declared.neighbour.Neighbour.{Neighbour}
use Rattle.net_names.specs.Numbers.{occurs}
use Rattle.net_names.proofs.Shared.{occurs_before, occurs_last}
use Rattle.sim_core.proofs.Pushing.{neighbour_more, pushed_split}
use Rattle.sim_core.proofs.policies.push_neighbours.Goals as goal

pub loop-neighbour-preserved : goal.loop-neighbour-preserved
loop-neighbour-preserved c =
    let xs = c.neighbours-neighbour-items.result.now in
    let i = c.loop-neighbour.neighbour-index in
    let x = c.neighbour-item.result in
    let old = c.loop-neighbour.ases.items in
    let inv = c.loop-neighbour.invariant in
    let items : c.push.new.self.items ≡ old ++ x.asn ∷ [] = c.in_ok-push.ensures.items in
    let link : relation c.args.graph.now c.args.asn x.asn ≡ Some x.rel = subst (λ (y : Neighbour). relation c.args.graph.now c.args.asn y.asn ≡ Some y.rel) (sym c.neighbour-item.is) (c.neighbours-neighbour-items.ensures.each i x c.loop-neighbour-test.true) in
    record {
      these = λ n h. elim (neighbour_more xs i x c.loop-neighbour-test.true c.neighbour-item.is n h) [
        | inl e ↦ subst (λ (l : List ℕ). occurs n l ≡ true) (sym items) (occurs_before n old x.asn (inv.these n e))
        | inr s ↦ subst (λ (l : List ℕ). occurs n l ≡ true) (sym items) (subst (λ (m : ℕ). occurs m (old ++ x.asn ∷ []) ≡ true) s (occurs_last old x.asn))
      ];
      only = λ a h none. elim (pushed_split a old x.asn (subst (λ (l : List ℕ). occurs a l ≡ true) items h)) [
        | inl e ↦ inv.only a e none
        | inr s ↦ (x.rel, subst (λ (m : ℕ). relation c.args.graph.now c.args.asn m ≡ Some x.rel) s link)
      ];
      more = λ a h. subst (λ (l : List ℕ). occurs a l ≡ true) (sym items) (occurs_before a old x.asn (inv.more a h));
    }
