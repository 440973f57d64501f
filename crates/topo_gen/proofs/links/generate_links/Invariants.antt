use Rattle.std.proofs.Common.{◌≡◌, min}
use Rattle.std.specs.List.{fold, range_with_len}
use Rattle.topo_gen.specs.Drawn.{first_peers, with_as}
use Rattle.topo_gen.proofs.links.generate_links.Given as goal

abbrev pub invariant-ases : goal.invariant-ases
invariant-ases l = (l.links, l.rng) ≡ fold with_as (first_peers (min l.n 8), l.n) (range_with_len 9 l.k)
