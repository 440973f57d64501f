use Rattle.std.proofs.Common.{subst, ap, List, ℕ, option_map, Vec, Global}
use Rattle.std.proofs.lemmas.Option.{same_Some}
use Rattle.dirty_recompute.specs.PlannedRanks.{rank_of}
use Rattle.dirty_recompute.specs.Spots.{AreSpotsOf, AreRanked}
use Rattle.dirty_recompute.specs.declared.spot.Spot.{Spot}
use Rattle.dirty_recompute.specs.declared.spots.Spots.{Spots}
use Rattle.dirty_recompute.proofs.CrowdLemmas.{spots_apart, spots_idle}
use Rattle.dirty_recompute.proofs.crowding.spots_of.Goals as goal

pub invariant_of-result-clause-apart : goal.invariant_of-result-clause-apart
invariant_of-result-clause-apart c =
    let are : AreSpotsOf (rank_of c.args.ranks.now) c.as_slice.result.now c.in-Some.items.items = c.in_ok-items.ensures c.in-Some.items.items (ap (option_map (λ (x : Vec Spot Global). x.items)) c.in-Some.is) in
    spots_apart (rank_of c.args.ranks.now) c.in_ok-order.order.ases.items c.in-Some.items.items c.in_ok-order.ensures.order.apart (subst (λ (v : List ℕ). AreSpotsOf (rank_of c.args.ranks.now) v c.in-Some.items.items) c.as_slice.ensures.value are)

pub invariant_of-result-clause-rising : goal.invariant_of-result-clause-rising
invariant_of-result-clause-rising c = let are : AreSpotsOf (rank_of c.args.ranks.now) c.as_slice.result.now c.in-Some.items.items = c.in_ok-items.ensures c.in-Some.items.items (ap (option_map (λ (x : Vec Spot Global). x.items)) c.in-Some.is) in are.rising

pub invariant_of-result-clause-within : goal.invariant_of-result-clause-within
invariant_of-result-clause-within c = let are : AreSpotsOf (rank_of c.args.ranks.now) c.as_slice.result.now c.in-Some.items.items = c.in_ok-items.ensures c.in-Some.items.items (ap (option_map (λ (x : Vec Spot Global). x.items)) c.in-Some.is) in spots_idle c.in-Some.items.items _ _ are.none

pub returns-in-Some-clause-ranked : goal.returns-in-Some-clause-ranked
returns-in-Some-clause-ranked c = λ s e. (let are : AreSpotsOf (rank_of c.args.ranks.now) c.as_slice.result.now c.in-Some.items.items = c.in_ok-items.ensures c.in-Some.items.items (ap (option_map (λ (x : Vec Spot Global). x.items)) c.in-Some.is) in
    subst (λ (v : Spots). AreRanked (rank_of c.args.ranks.now) v.items.items) (same_Some _ s e) are.ranked)
