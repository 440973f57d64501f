use Rattle.std.proofs.Common.{◌≡◌, ◌++◌, filter, map, take}
use Rattle.sim_core.specs.Loaded.{is_other}
use Rattle.sim_core.proofs.naming.add_others.Given as goal

abbrev pub invariant-loop-policy : goal.invariant-loop-policy
invariant-loop-policy l = l.names.items ≡ l.fn.names.items ++ map (λ p. p.0) (filter is_other (take l.policy-index l.policies))
