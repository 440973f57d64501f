use Rattle.std.proofs.Common.{sym, None, Some, subst}
use Rattle.as_graph.specs.Topology.{relation}
use Rattle.as_graph.specs.Neighbours.{AreNeighbours}
use Rattle.as_graph.proofs.Kept.{neighbours_read}
use Rattle.as_graph.proofs.graph.Graph.neighbours.Goals as goal

pub returns-in-Some : goal.returns-in-Some
returns-in-Some c = subst (AreNeighbours (relation c.args.self.now) c.args.asn) (sym c.as_slice.ensures.value)
    (neighbours_read c.self.inside.rows c.self.inside.order.items c.self.inside.links c.self.invariant.0 c.args.self.now c.self.inside.room c.self.view_is c.args.asn (Some c.in-Some.row.now) c.in-Some.ensures.value)

pub returns-in-None : goal.returns-in-None
returns-in-None c = neighbours_read c.self.inside.rows c.self.inside.order.items c.self.inside.links c.self.invariant.0 c.args.self.now c.self.inside.room c.self.view_is c.args.asn None c.in-None.ensures.value
