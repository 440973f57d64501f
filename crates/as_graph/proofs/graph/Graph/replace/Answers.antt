use Rattle.std.proofs.Common.{◌≤◌, subst, refl, Some}
use Rattle.as_graph.specs.Topology.{Topology, as_count}
use Rattle.as_graph.specs.Edits.{with_link}
use Rattle.as_graph.proofs.Kept.{linked_rows}
use Rattle.as_graph.proofs.Marking.{there_row}
use Rattle.as_graph.proofs.LinkWrites.{linked_apart}
use Rattle.as_graph.proofs.LinkTopology.{topology_of-linked, roomy-linked}
use Rattle.as_graph.proofs.GraphEdits.{seen_linked, end_there, some_back, kept-replaced, few-replaced}
use Rattle.as_graph.proofs.graph.Graph.replace.Goals as goal

pub put_link-requires-clause-differ : goal.put_link-requires-clause-differ
put_link-requires-clause-differ c = linked_apart c.self.inside.rows c.args.a c.args.b c.self.invariant.0.graph (linked_rows c.self.inside.rows c.self.inside.order.items c.self.inside.links c.self.invariant.0 c.args.self.now c.self.inside.room c.self.view_is c.args.a c.args.b c.requires)

pub put_link-requires-clause-first : goal.put_link-requires-clause-first
put_link-requires-clause-first c = there_row c.self.inside.rows c.args.a (end_there c.self.inside.rows c.args.a c.args.b c.self.invariant.0.graph (linked_rows c.self.inside.rows c.self.inside.order.items c.self.inside.links c.self.invariant.0 c.args.self.now c.self.inside.room c.self.view_is c.args.a c.args.b c.requires))

pub put_link-requires-clause-second : goal.put_link-requires-clause-second
put_link-requires-clause-second c =
    there_row c.self.inside.rows c.args.b (end_there c.self.inside.rows c.args.b c.args.a c.self.invariant.0.graph (some_back c.self.inside.rows c.args.a c.args.b c.self.invariant.0.graph (linked_rows c.self.inside.rows c.self.inside.order.items c.self.inside.links c.self.invariant.0 c.args.self.now c.self.inside.room c.self.view_is c.args.a c.args.b c.requires)))

pub put_link-requires-clause-room : goal.put_link-requires-clause-room
put_link-requires-clause-room c = λ none. absurd (linked_rows c.self.inside.rows c.self.inside.order.items c.self.inside.links c.self.invariant.0 c.args.self.now c.self.inside.room c.self.view_is c.args.a c.args.b c.requires none)

pub invariant_of-self : goal.invariant_of-self
invariant_of-self c =
    let some = linked_rows c.self.inside.rows c.self.inside.order.items c.self.inside.links c.self.invariant.0 c.args.self.now c.self.inside.room c.self.view_is c.args.a c.args.b c.requires in
    let ne = linked_apart c.self.inside.rows c.args.a c.args.b c.self.invariant.0.graph some in (
      kept-replaced c.self.inside.rows c.put_link.new.rows c.self.inside.order.items c.self.inside.links c.args.a c.args.b c.args.rel c.self.invariant.0 some ne c.put_link.ensures,
      roomy-linked c.self.inside.rows c.put_link.new.rows c.args.a c.args.b c.args.rel _ 0 c.self.inside.room c.room_for-self-inside.result c.put_link.ensures c.self.invariant.1.ordered c.room_for-self-inside.ensures,
    )

pub returns-clause-set : goal.returns-clause-set
returns-clause-set c =
    let ne = linked_apart c.self.inside.rows c.args.a c.args.b c.self.invariant.0.graph (linked_rows c.self.inside.rows c.self.inside.order.items c.self.inside.links c.self.invariant.0 c.args.self.now c.self.inside.room c.self.view_is c.args.a c.args.b c.requires) in
    seen_linked c.self.inside.rows c.put_link.new.rows c.self.inside.room c.room_for-self-inside.result c.args.self.now c.self.view_is c.args.a c.args.b c.args.rel
    (topology_of-linked c.self.inside.rows c.put_link.new.rows c.args.a c.args.b (Some c.args.rel) ne c.self.invariant.0.graph c.put_link.ensures c.args.rel refl) c.room_for-self-inside.ensures

pub returns-clause-few : goal.returns-clause-few
returns-clause-few c =
    let some = linked_rows c.self.inside.rows c.self.inside.order.items c.self.inside.links c.self.invariant.0 c.args.self.now c.self.inside.room c.self.view_is c.args.a c.args.b c.requires in
    let ne = linked_apart c.self.inside.rows c.args.a c.args.b c.self.invariant.0.graph some in
    subst (λ (h : Topology). as_count (with_link h c.args.a c.args.b c.args.rel) ≤ 150000) c.self.view_is
    (few-replaced c.self.inside.rows c.put_link.new.rows c.self.inside.order.items c.self.inside.links c.args.a c.args.b c.args.rel c.self.invariant.0 some ne c.put_link.ensures)
