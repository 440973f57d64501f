use Rattle.table_check.proofs.RowMaps.{short_empty}
use Rattle.table_check.proofs.rows.Rows.new.Goals as goal

pub invariant_of-result : goal.invariant_of-result
invariant_of-result c = short_empty _ c.new.ensures.empty
