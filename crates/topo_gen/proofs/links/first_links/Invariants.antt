use Rattle.std.proofs.Common.{◌≡◌}
use Rattle.topo_gen.specs.Drawn.{first_peers}
use Rattle.topo_gen.proofs.links.first_links.Given as goal

abbrev pub invariant-first : goal.invariant-first
invariant-first l = l.links ≡ first_peers l.k
