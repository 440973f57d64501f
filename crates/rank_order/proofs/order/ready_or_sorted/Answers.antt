use Rattle.std.proofs.Common.{◌==◌, ℕ, List, length, nat_eq, sym, subst, ap, ◌∙◌}
use Rattle.std.proofs.lemmas.List.Sorted.{list_any-IsPermutation, length_permutation}
use Rattle.std.proofs.lemmas.Cmp.{nat_eq_equiv}
use Rattle.std.proofs.lemmas.Map.Keys.{IsDistinct-IsPermutation}
use Rattle.as_graph.specs.Topology.{has}
use Rattle.as_graph.proofs.RowAses.{as_count-listed}
use Rattle.rank_order.specs.Ranks.{rank_at, IsRankOrder}
use Rattle.rank_order.proofs.order.ready_or_sorted.Goals as goal

pub returns-in_ok-copied-in-Some-clause-order : goal.returns-in_ok-copied-in-Some-clause-order
returns-in_ok-copied-in-Some-clause-order c =
    let order = c.in-Some.ensures.order in
    subst (IsRankOrder (has c.args.graph.now) (rank_at c.args.ranks.now)) (sym c.in_ok-copied-in-Some.ensures) (record {
      complete = λ a. order.complete a ∙ c.ases-ases.ensures.listed a;
      apart = order.apart;
      rising = order.rising;
    })

pub returns-in_ok-copied-in-Some-clause-count : goal.returns-in_ok-copied-in-Some-clause-count
returns-in_ok-copied-in-Some-clause-count c =
    let order = c.in-Some.ensures.order in
    ap (λ (xs : List ℕ). length xs) c.in_ok-copied-in-Some.ensures ∙ sym (as_count-listed c.args.graph.now c.in-Some.order.now.ases.items order.apart (λ a. order.complete a ∙ c.ases-ases.ensures.listed a))

pub returns-in_ok-sorted-in-None-clause-order : goal.returns-in_ok-sorted-in-None-clause-order
returns-in_ok-sorted-in-None-clause-order c = record {
  complete = λ a. sym (list_any-IsPermutation (λ y. y == a) _ _ c.in_ok-sorted-in-None.ensures.same) ∙ c.ases-ases.ensures.listed a;
  apart = IsDistinct-IsPermutation nat_eq (λ x y. nat_eq_equiv.symm x y) _ _ c.in_ok-sorted-in-None.ensures.same c.ases-ases.ensures.apart;
  rising = c.in_ok-sorted-in-None.ensures.rising;
}

pub returns-in_ok-sorted-in-None-clause-count : goal.returns-in_ok-sorted-in-None-clause-count
returns-in_ok-sorted-in-None-clause-count c = length_permutation _ _ c.in_ok-sorted-in-None.ensures.same ∙ c.ases-ases.ensures.counted
