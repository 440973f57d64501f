use Rattle.route_choice.proofs.Uses.{IsReplacing}
use Rattle.route_choice.proofs.slots.replace_all.Given as goal

abbrev pub invariant-loop-place : goal.invariant-loop-place
invariant-loop-place l = IsReplacing l.fn.slots l.slots l.changes l.fn.pool l.pool l.place
