use Rattle.std.proofs.Common.{rules, None}
use Rattle.as_graph.proofs.RowWrites.{row_sets_end}
use Rattle.as_graph.proofs.writes.take_end.Goals as goal

pub returns-clause-sets : goal.returns-clause-sets
returns-clause-sets c =
    let through = c.get_mut.follows.holds c.take.new.self in
    row_sets_end c.args.rows.now _ c.args.a c.in-Some.row.now c.take.new.self c.in-Some.ensures.value (through.3 (search rules)).0 through.4 c.args.b None through.2 c.take.ensures.sets c.take.ensures.marked
