use Rattle.std.proofs.Common.{◌≡◌}
use Rattle.sim_core.proofs.validating.known_states.Given as goal

abbrev pub invariant-loop-prefix : goal.invariant-loop-prefix
invariant-loop-prefix l = l.states.payloads ≡ l.vrps
