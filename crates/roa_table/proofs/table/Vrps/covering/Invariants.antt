use Rattle.std.proofs.Common.{◌≡◌}
use Rattle.roa_table.specs.Cover.{rows_below}
use Rattle.roa_table.proofs.table.Vrps.covering.Given as goal

abbrev pub invariant-loop-len : goal.invariant-loop-len
invariant-loop-len l = l.vrps.items ≡ rows_below l.self l.prefix l.len
