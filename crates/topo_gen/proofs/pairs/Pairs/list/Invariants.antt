use Rattle.std.proofs.Common.{◌≡◌, map}
use Rattle.std.specs.Map.Iter.{deref_pair}
use Rattle.topo_gen.proofs.Entries.{link_of}
use Rattle.topo_gen.proofs.pairs.Pairs.list.Given as goal

abbrev pub invariant-pairs : goal.invariant-pairs
invariant-pairs l = l.links.items ≡ map link_of (map deref_pair l.yielded)
