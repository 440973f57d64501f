use Rattle.std.proofs.Common.{◌≡◌}
use Rattle.asprop_run.proofs.states.states_at.Given as goal

abbrev pub invariant-loop-asn : goal.invariant-loop-asn
invariant-loop-asn l = l.states.payloads ≡ l.vrps
