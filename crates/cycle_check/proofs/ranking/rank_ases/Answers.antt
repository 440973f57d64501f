use Rattle.std.proofs.Common.{◌≡◌, ℕ, ◌<◌, List, length, map, get_or, sym, ap, subst, ◌∙◌}
use Rattle.std.proofs.lemmas.List.{length-map}
use Rattle.std.specs.List.Sorted.{IsStrictlyIncreasing}
use Rattle.net_names.specs.Numbers.{occurs}
use Rattle.as_graph.specs.Hierarchy.{IsRank, RankFits}
use Rattle.as_graph.specs.Topology.{relation}
use Rattle.cycle_check.specs.declared.ranking.RankedAs.{RankedAs}
use Rattle.cycle_check.specs.Counting.{IsCounted, ArePlaceRanks, ArePlacesByRank}
use Rattle.cycle_check.specs.Cycles.{IsCycleFromLowest}
use Rattle.cycle_check.specs.Places.{place_in}
use Rattle.cycle_check.specs.Providers.{rank_by}
use Rattle.cycle_check.specs.Rankings.{rank_in, ranks_of}
use Rattle.cycle_check.specs.Rows.{count_of, relation as relation_at}
use Rattle.cycle_check.proofs.Carrying.{carried, cycle_inside, carried_lowest}
use Rattle.cycle_check.proofs.Falling.{fitting_no_cycle}
use Rattle.cycle_check.proofs.Told.{rank_in-at}
use Rattle.cycle_check.proofs.ranking.rank_ases.Goals as goal

pub returns-in-Ranks : goal.returns-in-Ranks
returns-in-Ranks c =
    let w = relation c.args.graph.now in
    let ases = c.ases-ases.result.now in
    let starts = c.in_ok-rows.rows.starts.items in
    let items = c.in_ok-rows.rows.items.items in
    let region = c.in_ok-rows.ensures in
    let ranks = c.in-Ranks.ranks.items in
    let order = c.in-Ranks.order.items in
    let told = c.in_ok-with_ranks-in-Ranks.field-0.items in
    let counted : ArePlaceRanks c.deref.result.now c.deref-2.result.now ranks order = subst (IsCounted c.deref.result.now c.deref-2.result.now) c.in-Ranks.is c.in_ok-found.ensures in
    let are : ArePlaceRanks starts items ranks order =
    subst (λ xs. ArePlaceRanks starts xs ranks order) c.deref-2.ensures.value (subst (λ xs. ArePlaceRanks xs c.deref-2.result.now ranks order) c.deref.ensures.value counted) in
    let fits : (a : ℕ) → RankFits w (rank_by ases ranks) a = carried w ases starts items ranks region.rows region.providers are.each are.fits in
    let asns = c.in_ok-with_ranks-in-Ranks.ensures.asns in
    let own : ranks_of told ≡ ranks = c.in_ok-with_ranks-in-Ranks.ensures.ranks ∙ c.deref-in-Ranks.ensures.value in
    let size : length ases ≡ length told = sym (sym (length-map told (λ (x : RankedAs). x.asn)) ∙ ap length asns) in
    let at : (a : ℕ) → rank_in told a ≡ rank_by ases ranks a = λ a. (rank_in-at told a ∙ ap (λ rs. get_or rs (place_in (map (λ (x : RankedAs). x.asn) told) a) 0) own ∙ ap (λ xs. get_or ranks (place_in xs a) 0) asns) in (
      fitting_no_cycle w (rank_by ases ranks) fits,
      record {
        ases = record {
          listed = λ a. ap (occurs a) asns ∙ c.ases-ases.ensures.listed a;
          rising = subst IsStrictlyIncreasing (sym asns) c.ases-ases.ensures.rising;
          ranks = λ a. subst (IsRank w a) (sym (at a)) (c.fitting_are_ranks.ensures w (rank_by ases ranks) fits a);
        };
        by_rank =
            subst (λ n. ArePlacesByRank n (ranks_of told) order) (region.providers.places ∙ size)
            (subst (λ rs. ArePlacesByRank (count_of starts) rs order) (sym own) are.by_rank);
      },
    )

-- the cycle that was counted on the lists as they were lent is one of the lists
cycle_of : (starts items lent-starts lent-items places : List ℕ) → lent-starts ≡ starts → lent-items ≡ items → IsCycleFromLowest (relation_at lent-starts lent-items) places → IsCycleFromLowest (relation_at starts items) places
cycle_of starts items lent-starts lent-items places same-starts same-items found =
    subst (λ xs. IsCycleFromLowest (relation_at starts xs) places) same-items (subst (λ xs. IsCycleFromLowest (relation_at xs lent-items) places) same-starts found)

pub cycle_at-requires : goal.cycle_at-requires
cycle_at-requires c =
    let rows = c.in_ok-rows.rows in
    let places = c.in-Cycle.places.items in
    let cycle = cycle_of rows.starts.items rows.items.items c.deref.result.now c.deref-2.result.now places c.deref.ensures.value c.deref-2.ensures.value (subst (IsCounted c.deref.result.now c.deref-2.result.now) c.in-Cycle.is c.in_ok-found.ensures) in
    let inside = cycle_inside (relation c.args.graph.now) c.ases-ases.result.now rows.starts.items rows.items.items c.in_ok-rows.ensures.rows c.in_ok-rows.ensures.providers places cycle.cycle in
    subst (λ (xs : List ℕ). (k : ℕ) → k < length xs → get_or xs k 0 < length c.ases-ases.result.now) (sym c.deref-in-Cycle.ensures.value) inside

pub returns : goal.returns
returns c =
    let rows = c.in_ok-rows.rows in
    let places = c.in-Cycle.places.items in
    let cycle = cycle_of rows.starts.items rows.items.items c.deref.result.now c.deref-2.result.now places c.deref.ensures.value c.deref-2.ensures.value (subst (IsCounted c.deref.result.now c.deref-2.result.now) c.in-Cycle.is c.in_ok-found.ensures) in
    let are = c.in_ok-cycle_at-in-Cycle.ensures ∙ ap (map (λ (p : ℕ). get_or c.ases-ases.result.now p 0)) c.deref-in-Cycle.ensures.value in
    subst (IsCycleFromLowest (relation c.args.graph.now)) (sym are) (carried_lowest (relation c.args.graph.now) c.ases-ases.result.now rows.starts.items rows.items.items c.in_ok-rows.ensures.rows c.in_ok-rows.ensures.providers places cycle)
