use Rattle.table_check.proofs.ReadSections.{tables_again}
use Rattle.table_check.proofs.laws.printed_tables_are_read.Goals as goal

pub returns : goal.returns
returns c = tables_again
