use Rattle.std.proofs.Common.{◌≡◌, ◌++◌, flat_map, take}
use Rattle.sim_core.proofs.naming.add_leakers.Given as goal

abbrev pub invariant-loop-leakers : goal.invariant-loop-leakers
invariant-loop-leakers l = l.names.items ≡ l.fn.names.items ++ flat_map (λ leakers. leakers) (take l.leakers-index l.leaks)
