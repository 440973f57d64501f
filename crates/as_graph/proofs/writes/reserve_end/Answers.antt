use Rattle.std.proofs.Common.{rules}
use Rattle.as_graph.proofs.RowWrites.{row_keeps}
use Rattle.as_graph.proofs.writes.reserve_end.Goals as goal

pub returns-clause-keeps : goal.returns-clause-keeps
returns-clause-keeps c =
    let through = c.get_mut.follows.holds c.reserve.new.self in
    row_keeps c.args.rows.now _ c.args.asn c.in-Some.row.now c.reserve.new.self c.in-Some.ensures.value (through.3 (search rules)).0 through.4 c.reserve.ensures.same c.reserve.ensures.marked c.reserve.ensures.kept
