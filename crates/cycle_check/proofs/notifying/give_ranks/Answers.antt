use Rattle.std.proofs.Common.{[], take, arith}
use Rattle.cycle_check.specs.Rows.{row, count_of}
use Rattle.cycle_check.proofs.Stages.{order_few}
use Rattle.cycle_check.proofs.notifying.give_ranks.Goals as goal

pub loop-head-smaller : goal.loop-head-smaller
loop-head-smaller c =
    let order = c.loop-head.order.items in
    let few = order_few (row c.args.starts.now c.args.items.now) (count_of c.args.starts.now) c.loop-head.counts c.loop-head.ranks order (take c.loop-head.head order) [] c.loop-head.invariant.stage in
    omega (arith, few, c.loop-head-test.true, c.len.ensures)
