use Rattle.sim_core.proofs.Renewals.{IsRoomed}
use Rattle.sim_core.proofs.Working.{IsWorked}
use Rattle.sim_core.proofs.renewing.make_room_in.Given as goal

abbrev pub invariant-loop-place : goal.invariant-loop-place
invariant-loop-place l = IsWorked (IsRoomed l.graph) l.fn.one.watches.items l.one.watches.items l.place
