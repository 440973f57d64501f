use Rattle.std.proofs.Common.{◌≡◌}
use Rattle.sim_core.proofs.validating.find_states.Given as goal

abbrev pub invariant-loop-asn : goal.invariant-loop-asn
invariant-loop-asn l = l.states.payloads ≡ l.fn.states.payloads
