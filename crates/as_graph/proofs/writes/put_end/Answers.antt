use Rattle.std.proofs.Common.{rules, Some}
use Rattle.as_graph.proofs.RowWrites.{row_sets_end}
use Rattle.as_graph.proofs.writes.put_end.Goals as goal

pub returns : goal.returns
returns c =
    let through = c.get_mut.follows.holds c.put.new.self in
    row_sets_end c.args.rows.now _ c.args.a c.in-Some.row.now c.put.new.self c.in-Some.ensures.value (through.3 (search rules)).0 through.4 c.args.b (Some c.args.rel) through.2 c.put.ensures.sets c.put.ensures.marked
