use Rattle.roa_table.specs.Gathering.{IsAdmitting}
use Rattle.roa_table.proofs.crowd.first_fault.Given as goal

abbrev pub invariant-loop-row : goal.invariant-loop-row
invariant-loop-row l = IsAdmitting l.reader l.fn.bytes l.row l.vrps.keys
