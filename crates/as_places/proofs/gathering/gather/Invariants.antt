use Rattle.std.proofs.Common.{◌≡◌, take}
use Rattle.as_places.proofs.gathering.gather.Given as goal

abbrev pub invariant-loop-asn : goal.invariant-loop-asn
invariant-loop-asn l = l.set.keys ≡ take l.asn-index l.ases
