use Rattle.std.proofs.Common.{◌+◌, ◌<◌, arith}
use Rattle.topo_gen.proofs.Drawing.{more_peers, no_peers}
use Rattle.topo_gen.proofs.links.join_below.Goals as goal

pub below-init : goal.below-init
below-init c es h = no_peers c.args.a es _ h

pub below-preserved : goal.below-preserved
below-preserved c es h =
    let below : c.below.k + 1 < c.args.a = omega arith in
    more_peers c.args.a c.below.k es _ _ below (c.below.invariant es h) c.in_ok-join.ensures
