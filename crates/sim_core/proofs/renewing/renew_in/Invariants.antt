use Rattle.leak_round.specs.Rounds.{kept, plan_of}
use Rattle.sim_core.proofs.Renewals.{IsRenewed}
use Rattle.sim_core.proofs.Working.{IsWorked}
use Rattle.sim_core.proofs.renewing.renew_in.Given as goal

abbrev pub invariant-loop-place : goal.invariant-loop-place
invariant-loop-place l = IsWorked (IsRenewed l.graph (plan_of l.rounds) (kept l.rounds l.round) l.book) l.fn.one.watches.items l.one.watches.items l.place
