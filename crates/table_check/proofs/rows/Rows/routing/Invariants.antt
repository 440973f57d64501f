use Rattle.std.proofs.Common.{◌≡◌, map}
use Rattle.std.specs.FinMap as fin
use Rattle.std.specs.Map.Iter.{deref_pair}
use Rattle.table_check.proofs.RowMaps.{with_entries}
use Rattle.table_check.proofs.rows.Rows.routing.Given as goal

abbrev pub invariant-rows : goal.invariant-rows
invariant-rows l = l.routing ≡ with_entries l.round fin.empty (map deref_pair l.yielded)
