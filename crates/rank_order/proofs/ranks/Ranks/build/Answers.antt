use Rattle.std.proofs.Common.{List, ℕ, length, is_some, unwrap_or, sym, ap, subst, ◌∙◌}
use Rattle.std.specs.List.Sorted.{IsStrictlyIncreasing}
use Rattle.as_graph.specs.Topology.{relation}
use Rattle.as_graph.specs.Hierarchy.{IsRank}
use Rattle.cycle_check.specs.declared.ranking.RankedAs.{RankedAs}
use Rattle.cycle_check.specs.declared.ranking.Ranking.TheVariants.{Ranks}
use Rattle.cycle_check.specs.Counting.{ArePlacesByRank}
use Rattle.cycle_check.specs.Rankings.{IsRanking, rank_told, numbers_of, ranks_of}
use Rattle.rank_order.proofs.Kept.{is_told}
use Rattle.rank_order.proofs.ranks.Ranks.build.Goals as goal

pub keep-requires-clause-rising : goal.keep-requires-clause-rising
keep-requires-clause-rising c =
    let found : IsRanking c.args.graph.now (Ranks c.in-Ranks.ranked) = subst (IsRanking c.args.graph.now) c.in-Ranks.is c.in_ok-ranked.ensures in
    subst (λ (xs : List RankedAs). IsStrictlyIncreasing (numbers_of xs)) (sym c.deref.ensures.value) found.1.ases.rising

pub keep-requires-clause-by_rank : goal.keep-requires-clause-by_rank
keep-requires-clause-by_rank c =
    let found : IsRanking c.args.graph.now (Ranks c.in-Ranks.ranked) = subst (IsRanking c.args.graph.now) c.in-Ranks.is c.in_ok-ranked.ensures in
    subst (λ (xs : List RankedAs). ArePlacesByRank (length xs) (ranks_of xs) c.deref-in-Ranks.result.now) (sym c.deref.ensures.value)
    (subst (λ (ps : List ℕ). ArePlacesByRank (length c.in-Ranks.ranked.ases.items) (ranks_of c.in-Ranks.ranked.ases.items) ps) (sym c.deref-in-Ranks.ensures.value) found.1.by_rank)

pub returns-in_ok-keep-in-Ranks-clause-ranks : goal.returns-in_ok-keep-in-Ranks-clause-ranks
returns-in_ok-keep-in-Ranks-clause-ranks c = λ a.
    let told = c.in_ok-keep-in-Ranks.ensures.told a ∙ ap (λ (ys : List RankedAs). rank_told ys a) c.deref.ensures.value in
    let found : IsRanking c.args.graph.now (Ranks c.in-Ranks.ranked) = subst (IsRanking c.args.graph.now) c.in-Ranks.is c.in_ok-ranked.ensures in
    subst (IsRank (relation c.args.graph.now) a) (sym (ap (λ r. unwrap_or r 0) told)) (found.1.ases.ranks a)

pub returns-in_ok-keep-in-Ranks-clause-ases : goal.returns-in_ok-keep-in-Ranks-clause-ases
returns-in_ok-keep-in-Ranks-clause-ases c = λ a.
    let xs = c.in-Ranks.ranked.ases.items in
    let told = c.in_ok-keep-in-Ranks.ensures.told a ∙ ap (λ (ys : List RankedAs). rank_told ys a) c.deref.ensures.value in
    let found : IsRanking c.args.graph.now (Ranks c.in-Ranks.ranked) = subst (IsRanking c.args.graph.now) c.in-Ranks.is c.in_ok-ranked.ensures in
    ap is_some told ∙ is_told xs a ∙ found.1.ases.listed a
