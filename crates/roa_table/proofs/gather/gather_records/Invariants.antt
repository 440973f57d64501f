use Rattle.roa_table.specs.Gathering.{IsGathering}
use Rattle.roa_table.proofs.gather.gather_records.Given as goal

abbrev pub invariant-loop-row : goal.invariant-loop-row
invariant-loop-row l = IsGathering l.reader l.fn.bytes l.row l.vrps.items
