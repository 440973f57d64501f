use Rattle.std.proofs.Common.{sym, arith}
use Rattle.roa_table.proofs.Placed.{below_parts, to_parts}
use Rattle.roa_table.proofs.row.middle.Goals as goal

pub returns-then-start-gt0 : goal.returns-then-start-gt0
returns-then-start-gt0 c = below_parts c.prefix-prefix.result c.args.vrps.now c.count_below-start.result c.count_below-start.ensures (omega arith)

pub returns-else-start-gt0 : goal.returns-else-start-gt0
returns-else-start-gt0 c = to_parts c.prefix-prefix.result c.args.vrps.now c.count_to.result _ c.index-vrps-vrps.result c.count_to.ensures (omega arith) c.index-vrps-vrps.is (sym c.prefix-prefix.ensures)
