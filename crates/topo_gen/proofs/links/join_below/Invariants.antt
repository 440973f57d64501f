use Rattle.std.proofs.Common.{◌≡◌, ◌++◌, List}
use Rattle.topo_gen.proofs.Entries.{Entry, map_with}
use Rattle.topo_gen.proofs.Drawing.{peers_of}
use Rattle.topo_gen.proofs.links.join_below.Given as goal

abbrev pub invariant-below : goal.invariant-below
invariant-below l = (es : List Entry) → l.fn.links ≡ map_with es → l.links ≡ map_with (es ++ peers_of l.a l.k)
