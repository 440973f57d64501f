use Rattle.std.proofs.Common.{◌≡◌, map}
use Rattle.topo_gen.specs.Scenarios.{kind_of}
use Rattle.std.specs.List.{range_with_len}
use Rattle.topo_gen.proofs.scenario.set_policies.Given as goal

abbrev pub invariant-ases : goal.invariant-ases
invariant-ases l = l.scenario ≡ record l.fn.scenario { policies = map (λ a. (a, kind_of a)) (range_with_len 1 l.k) }
