use Rattle.dirty_recompute.specs.Clearing.{AreCleared}
use Rattle.dirty_recompute.proofs.QueueLemmas.{IsInBelow}
use Rattle.dirty_recompute.proofs.clearing.clear.Given as goal

abbrev pub invariant-loop-place : goal.invariant-loop-place
invariant-loop-place l = AreCleared l.table l.initial.overlay l.overlay (IsInBelow l.place l.ases)
