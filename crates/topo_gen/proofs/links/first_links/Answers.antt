use Rattle.std.proofs.Common.{◌≡◌, ◌+◌, ◌-◌, arith}
use Rattle.topo_gen.proofs.Drawing.{more_first, no_first}
use Rattle.topo_gen.proofs.links.first_links.Goals as goal

pub first-init : goal.first-init
first-init c = no_first _ c.new-links.ensures

pub first-preserved : goal.first-preserved
first-preserved c =
    let below : c.first.k + 1 - 1 ≡ c.first.k = omega arith in
    more_first _ _ _ _ c.first.invariant below c.in_ok-join_below.ensures
