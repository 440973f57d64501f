use Rattle.std.proofs.Common.{rules}
use Rattle.as_graph.proofs.RowWrites.{row_sets_mark}
use Rattle.as_graph.proofs.writes.set_mark.Goals as goal

pub returns : goal.returns
returns c =
    let through = c.get_mut.follows.holds c.set_mark.new.self in
    row_sets_mark c.args.rows.now _ c.args.asn c.in-Some.row.now c.set_mark.new.self c.in-Some.ensures.value (through.3 (search rules)).0 through.4 c.args.mark through.2 c.set_mark.ensures.marked c.set_mark.ensures.same
