use Rattle.roa_table.proofs.Placed.{parts_below, nothing_before}
use Rattle.roa_table.proofs.row.part_before.Goals as goal

pub returns-then-vrps-few-clause-apart : goal.returns-then-vrps-few-clause-apart
returns-then-vrps-few-clause-apart c = nothing_before c.args.vrps.now

pub returns-then-at-vrps-clause-apart : goal.returns-then-at-vrps-clause-apart
returns-then-at-vrps-clause-apart c = parts_below c.prefix.result c.args.vrps.now c.count_below-at.result c.count_below-at.ensures

pub returns-else-at-vrps-clause-apart : goal.returns-else-at-vrps-clause-apart
returns-else-at-vrps-clause-apart c = nothing_before c.args.vrps.now
