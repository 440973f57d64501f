use Rattle.as_graph.proofs.Marking.{topology_of-kept}
use Rattle.as_graph.proofs.LinkTopology.{roomy-new}
use Rattle.as_graph.proofs.GraphEdits.{kept_made, invariant_made, refused_made, seen_room}
use Rattle.as_graph.proofs.graph.Graph.room.Goals as goal

pub invariant_of-self : goal.invariant_of-self
invariant_of-self c = invariant_made c.self.inside.rows c.make_ends.new.rows c.self.inside.order.items c.make_ends.new.order.items c.self.inside.links c.self.invariant.0 c.make_ends.ensures.keeps c.make_ends.ensures.order _ c.self.inside.room _ c.self.invariant.1 (c.make_ends.ensures.places c.self.invariant.1.ordered)

pub invariant_of-self-2 : goal.invariant_of-self-2
invariant_of-self-2 c = (
  kept_made c.self.inside.rows c.make_ends.new.rows c.self.inside.order.items c.make_ends.new.order.items c.self.inside.links c.self.invariant.0 c.make_ends.ensures.keeps c.make_ends.ensures.order,
  roomy-new c.make_ends.new.rows _ c.args.a c.args.b (c.make_ends.ensures.places c.self.invariant.1.ordered) c.in_ok-make_ends.ensures.room,
)

pub returns-in_err-make_ends-clause-err : goal.returns-in_err-make_ends-clause-err
returns-in_err-make_ends-clause-err c = refused_made c.self.inside.rows c.make_ends.new.rows c.self.inside.order.items c.self.inside.links c.self.invariant.0 c.make_ends.ensures.keeps c.from_residual.result c.self.inside.room c.args.self.now c.self.view_is

pub returns-clause-ok : goal.returns-clause-ok
returns-clause-ok c =
    seen_room c.self.inside.rows c.make_ends.new.rows c.self.inside.room c.self.inside.room c.args.self.now c.self.view_is c.args.a c.args.b (topology_of-kept c.self.inside.rows c.make_ends.new.rows c.make_ends.ensures.keeps c.self.invariant.0.graph)
