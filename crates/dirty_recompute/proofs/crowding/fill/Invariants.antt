use Rattle.dirty_recompute.proofs.CrowdLemmas.{AreFilled}
use Rattle.dirty_recompute.proofs.crowding.fill.Given as goal

abbrev pub invariant-loop-key : goal.invariant-loop-key
invariant-loop-key l = AreFilled l.initial.spots.items.items l.spots.items.items l.keys l.key-index
