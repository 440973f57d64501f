use Rattle.std.proofs.Common.{◌<◌, ℕ, suc}
use Rattle.leak_round.specs.Rounds.{kept}
use Rattle.leak_round.specs.Staying.{StaysRightIn}
use Rattle.leak_round.proofs.ends.stays_in_rounds.Given as goal

abbrev pub invariant-loop-past : goal.invariant-loop-past
invariant-loop-past g l = (before : ℕ) → before < l.past → StaysRightIn g.P.RoutePolicy.meaning g.V.OriginStates.state_of l.world l.prefix (kept l.rounds (suc before) l.prefix) l.asn l.end
