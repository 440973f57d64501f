use Rattle.std.proofs.Common.{◌≡◌, map}
use Rattle.std.specs.Map.Iter.{deref_pair}
use Rattle.caida_reader.specs.Runs.{link_of}
use Rattle.caida_reader.proofs.others.Others.links.Given as goal

abbrev pub invariant-pairs : goal.invariant-pairs
invariant-pairs l = l.links.items ≡ map link_of (map deref_pair l.yielded)
