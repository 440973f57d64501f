use Rattle.table_check.specs.Numbers.{AreNumbers}
use Rattle.table_check.specs.Rows.{held_by}
use Rattle.table_check.proofs.placed.long_paths.Given as goal

abbrev pub invariant-loop-asn : goal.invariant-loop-asn
invariant-loop-asn l = AreNumbers (held_by l.table l.round) l.long
