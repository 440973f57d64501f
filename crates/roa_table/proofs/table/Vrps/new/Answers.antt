use Rattle.roa_table.proofs.Tabled.{empty_table}
use Rattle.roa_table.proofs.table.Vrps.new.Goals as goal

pub invariant_of-result : goal.invariant_of-result
invariant_of-result c = empty_table c.new.result.items c.new.ensures.items
