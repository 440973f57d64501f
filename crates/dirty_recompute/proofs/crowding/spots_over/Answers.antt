use Rattle.std.proofs.Common.{◌≤◌, ◌+◌, List, false, length, refl, subst, sym}
use Rattle.std.proofs.lemmas.Option.{slice_get_read}
use Rattle.dirty_recompute.specs.declared.spot.Spot.{Spot}
use Rattle.dirty_recompute.specs.PlannedRanks.{rank_of}
use Rattle.dirty_recompute.proofs.CrowdLemmas.{AreSpotsSoFar, spots_next}
use Rattle.dirty_recompute.proofs.crowding.spots_over.Goals as goal

pub loop-at-preserved : goal.loop-at-preserved
loop-at-preserved c =
    subst (λ (v : List Spot). AreSpotsSoFar (rank_of c.args.ranks.now) c.args.ases.now v (c.loop-at.at + 1) c.rank_near-rank.result) (sym c.in_ok-push.ensures.items)
    (spots_next (rank_of c.args.ranks.now) c.args.ases.now c.loop-at.spots.items c.loop-at.at c.loop-at.last (record { asn = c.index-ases-at.result; rank = c.rank_near-rank.result; row = c.row_at-row.result; waits = false })
    (slice_get_read c.args.ases.now (length c.args.ases.now) c.loop-at.at c.index-ases-at.result refl c.loop-at-test.true c.index-ases-at.is) c.rank_near-rank.ensures refl
    (let up : c.loop-at.last ≤ c.rank_near-rank.result = c.if-rank-last.false in up) c.loop-at.invariant)
