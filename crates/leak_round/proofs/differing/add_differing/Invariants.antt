use Rattle.std.proofs.Common.{take}
use Rattle.leak_round.specs.Differing.{AddsDiffering}
use Rattle.leak_round.proofs.differing.add_differing.Given as goal

abbrev pub invariant-loop-asn : goal.invariant-loop-asn
invariant-loop-asn l = AddsDiffering l.pool l.old l.new (take l.asn-index l.names) l.fn.ases.items l.ases.items
