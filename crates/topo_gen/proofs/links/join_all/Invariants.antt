use Rattle.std.proofs.Common.{◌≡◌}
use Rattle.std.specs.Fn.{iterate}
use Rattle.topo_gen.specs.Drawn.{picked}
use Rattle.topo_gen.proofs.links.join_all.Given as goal

abbrev pub invariant-picked : goal.invariant-picked
invariant-picked l = (l.links, l.rng) ≡ iterate (picked l.a l.rel) l._k (l.fn.links, l.fn.rng)
