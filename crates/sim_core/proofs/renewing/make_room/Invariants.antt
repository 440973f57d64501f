use Rattle.sim_core.proofs.Renewals.{AreRoomed}
use Rattle.sim_core.proofs.Working.{IsWorked}
use Rattle.sim_core.proofs.renewing.make_room.Given as goal

abbrev pub invariant-loop-place : goal.invariant-loop-place
invariant-loop-place l = IsWorked (AreRoomed l.graph) l.fn.all.items l.all.items l.place
