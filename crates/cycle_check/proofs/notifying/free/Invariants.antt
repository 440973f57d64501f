use Rattle.cycle_check.specs.Stages.{AreFree}
use Rattle.cycle_check.proofs.notifying.free.Given as goal

abbrev pub invariant-loop-place : goal.invariant-loop-place
invariant-loop-place l = AreFree l.counts l.order.items l.place
