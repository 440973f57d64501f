use Rattle.std.proofs.Common.{◌≡◌, true, map}
use Rattle.std.specs.List.{list_all}
use Rattle.std.specs.Map.Iter.{deref_pair}
use Rattle.as_graph.specs.Topology.{has}
use Rattle.table_check.specs.Rows.{inside_row}
use Rattle.table_check.proofs.rows.Rows.are_inside.Given as goal

abbrev pub invariant-rows : goal.invariant-rows
invariant-rows l = list_all (inside_row (has l.graph) l.round) (map deref_pair l.yielded) ≡ true
