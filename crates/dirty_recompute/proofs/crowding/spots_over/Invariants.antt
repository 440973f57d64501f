use Rattle.dirty_recompute.specs.PlannedRanks.{rank_of}
use Rattle.dirty_recompute.proofs.CrowdLemmas.{AreSpotsSoFar}
use Rattle.dirty_recompute.proofs.crowding.spots_over.Given as goal

abbrev pub invariant-loop-at : goal.invariant-loop-at
invariant-loop-at l = AreSpotsSoFar (rank_of l.ranks) l.ases l.spots.items l.at l.last
