use Rattle.roa_table.specs.Gathering.{IsAtLine}
use Rattle.roa_table.proofs.gather.gather_lines.Given as goal

abbrev pub invariant-loop-row : goal.invariant-loop-row
invariant-loop-row l = IsAtLine l.left l.fn.bytes l.row l.vrps.items
