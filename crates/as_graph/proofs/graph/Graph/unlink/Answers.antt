use Rattle.std.proofs.Common.{rules, ◌≢◌, ◌≤◌, ◌-◌, None, refl, arith}
use Rattle.as_graph.specs.Topology.{relation}
use Rattle.as_graph.proofs.Kept.{linked_rows}
use Rattle.as_graph.proofs.LinkWrites.{linked_apart, roomy-taken}
use Rattle.as_graph.proofs.LinkTopology.{topology_of-unlinked}
use Rattle.as_graph.proofs.GraphEdits.{seen_unlinked, kept-removed, some_links}
use Rattle.as_graph.proofs.graph.Graph.unlink.Goals as goal

pub take_link-requires-clause-linked : goal.take_link-requires-clause-linked
take_link-requires-clause-linked c =
    let some : relation c.args.self.now c.args.a c.args.b ≢ None = search rules in
    linked_rows c.self.inside.rows c.self.inside.order.items c.self.inside.links c.self.invariant.0 c.args.self.now c.self.inside.room c.self.view_is c.args.a c.args.b some

pub overflow_sub-self : goal.overflow_sub-self
overflow_sub-self c =
    let some : relation c.args.self.now c.args.a c.args.b ≢ None = search rules in
    some_links c.self.inside.rows c.self.inside.order.items c.self.inside.links c.args.a c.args.b c.self.invariant.0 (linked_rows c.self.inside.rows c.self.inside.order.items c.self.inside.links c.self.invariant.0 c.args.self.now c.self.inside.room c.self.view_is c.args.a c.args.b some)

pub invariant_of-self : goal.invariant_of-self
invariant_of-self c =
    let seen : relation c.args.self.now c.args.a c.args.b ≢ None = search rules in
    let some = linked_rows c.self.inside.rows c.self.inside.order.items c.self.inside.links c.self.invariant.0 c.args.self.now c.self.inside.room c.self.view_is c.args.a c.args.b seen in
    let ne = linked_apart c.self.inside.rows c.args.a c.args.b c.self.invariant.0.graph some in
    let count : 1 ≤ c.self.inside.links = some_links c.self.inside.rows c.self.inside.order.items c.self.inside.links c.args.a c.args.b c.self.invariant.0 some in (
      kept-removed c.self.inside.rows c.take_link.new.rows c.self.inside.order.items c.unlist_lone.new.order.items c.unlist_lone-2.new.order.items c.self.inside.links c.args.a c.args.b c.self.invariant.0 some ne c.take_link.ensures.sets
          c.unlist_lone.ensures.this c.unlist_lone.ensures.others c.unlist_lone-2.ensures.this c.unlist_lone-2.ensures.others
          c.unlist_lone-2.ensures.rising (omega (arith, c.unlist_lone.ensures.len, c.unlist_lone-2.ensures.len)) (c.self.inside.links - 1) (omega (arith, count)),
      roomy-taken c.self.inside.rows c.take_link.new.rows c.args.a c.args.b c.take_link.ensures.sets c.take_link.ensures.first c.take_link.ensures.second _ _ c.self.inside.room c.self.invariant.1
          (omega (arith, c.unlist_lone.ensures.places, c.unlist_lone-2.ensures.places)),
    )

pub returns-clause-ok : goal.returns-clause-ok
returns-clause-ok c =
    let seen : relation c.args.self.now c.args.a c.args.b ≢ None = search rules in
    let ne = linked_apart c.self.inside.rows c.args.a c.args.b c.self.invariant.0.graph (linked_rows c.self.inside.rows c.self.inside.order.items c.self.inside.links c.self.invariant.0 c.args.self.now c.self.inside.room c.self.view_is c.args.a c.args.b seen) in
    seen_unlinked c.self.inside.rows c.take_link.new.rows c.self.inside.room c.self.inside.room c.args.self.now c.self.view_is c.args.a c.args.b (topology_of-unlinked c.self.inside.rows c.take_link.new.rows c.args.a c.args.b None ne c.self.invariant.0.graph c.take_link.ensures.sets refl)
