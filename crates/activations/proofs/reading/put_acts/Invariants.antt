use Rattle.std.proofs.Common.{◌≡◌, ◌++◌, take, map}
use Rattle.activations.proofs.reading.put_acts.Given as goal

abbrev pub invariant-loop-asn : goal.invariant-loop-asn
invariant-loop-asn l = l.acts ≡ record l.fn.acts {
  list = l.fn.acts.list ++ take l.asn-index l.ases;
  named = l.fn.acts.named ++ map (λ a. (l.number, a)) (take l.asn-index l.ases);
}
