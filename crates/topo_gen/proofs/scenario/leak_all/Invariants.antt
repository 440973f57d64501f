use Rattle.std.proofs.Common.{◌≡◌, [], ◌∷◌, filter}
use Rattle.std.specs.List.{range_with_len}
use Rattle.topo_gen.proofs.UpTo.{leaks}
use Rattle.topo_gen.proofs.scenario.leak_all.Given as goal

abbrev pub invariant-ases : goal.invariant-ases
invariant-ases l = l.scenario ≡ record l.fn.scenario { leaks = filter leaks (range_with_len 1 l.k) ∷ [] }
