use Rattle.dirty_recompute.specs.PlannedRanks.{rank_of}
use Rattle.dirty_recompute.proofs.CrowdLemmas.{HasTaken}
use Rattle.dirty_recompute.proofs.crowding.put_waiting.Given as goal

abbrev pub invariant-loop-spot : goal.invariant-loop-spot
invariant-loop-spot l = HasTaken (rank_of l.ranks) l.initial.few l.few l.spots l.spot-index
