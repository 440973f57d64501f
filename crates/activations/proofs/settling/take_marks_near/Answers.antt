use Rattle.std.proofs.Common.{◌≡◌, true, subst, take_all}
use Rattle.net_names.specs.Numbers.{occurs}
use Rattle.as_graph.specs.Neighbours.{asns}
use Rattle.as_graph.specs.Topology.{relation}
use Rattle.activations.specs.Settling.{KeepsStrangers}
use Rattle.activations.proofs.Placing.{linked_among, neighbour_more}
use Rattle.activations.proofs.settling.take_marks_near.Goals as goal

pub loop-neighbour-init : goal.loop-neighbour-init
loop-neighbour-init c = λ k b m. (m, λ e. cc e)

pub loop-neighbour-preserved : goal.loop-neighbour-preserved
loop-neighbour-preserved c =
    neighbour_more c.args.rows.now c.args.marks.now.items c.loop-neighbour.marks.items c.take_mark.new.marks.items c.neighbours_near-neighbours.result.now c.loop-neighbour.neighbour-index c.neighbour-item.result c.loop-neighbour-test.true c.neighbour-item.is
    c.loop-neighbour.invariant c.take_mark.ensures

pub returns : goal.returns
returns c =
    let xs = c.neighbours_near-neighbours.result.now in
    linked_among (relation c.args.graph.now) c.args.asn xs c.neighbours_near-neighbours.ensures c.args.rows.now c.args.marks.now.items c.loop-neighbour.marks.items
    (subst (λ ys. KeepsStrangers (λ b. occurs b (asns ys) ≡ true) c.args.rows.now c.args.marks.now.items c.loop-neighbour.marks.items) (take_all c.loop-neighbour.neighbour-index xs c.loop-neighbour-test.false) c.loop-neighbour.invariant)
