use Rattle.std.proofs.Common.{◌≡◌, take}
use Rattle.leak_round.specs.Edited.{others_of}
use Rattle.leak_round.proofs.edited.others_of.Given as goal

abbrev pub invariant-loop-one : goal.invariant-loop-one
invariant-loop-one l = l.others.items ≡ others_of l.prefix l.asn (take l.one-index l.announced)
