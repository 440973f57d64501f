use Rattle.std.proofs.Common.{subst}
use Rattle.table_check.specs.Rows.{HoldsShort}
use Rattle.table_check.proofs.RowMaps.{holds_short, rows_with}
use Rattle.table_check.proofs.rows.Rows.paths_are_short.Goals as goal

pub returns : goal.returns
returns c = subst HoldsShort c.self.view_is (holds_short (rows_with c.self.inside.entries.entries) c.self.invariant)
