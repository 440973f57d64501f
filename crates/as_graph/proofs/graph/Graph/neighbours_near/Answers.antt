use Rattle.std.proofs.Common.{nat_eq, Some, sym, subst, ap, ◌∙◌, ◌≡◌}
use Rattle.std.proofs.lemmas.Bool.{eqb-true}
use Rattle.indexmap.specs.IndexMap.{get}
use Rattle.as_graph.specs.Topology.{relation}
use Rattle.as_graph.specs.Neighbours.{AreNeighbours}
use Rattle.as_graph.proofs.Kept.{neighbours_read}
use Rattle.as_graph.proofs.graph.Graph.neighbours_near.Goals as goal

pub returns-in-Some : goal.returns-in-Some
returns-in-Some c =
    let same : c.in-Some.found.now ≡ c.args.asn = eqb-true _ _ (sym c.eq.ensures ∙ c.if-eq.true) in
    subst (AreNeighbours (relation c.args.self.now) c.args.asn) (sym c.as_slice.ensures.value)
    (neighbours_read c.self.inside.rows c.self.inside.order.items c.self.inside.links c.self.invariant.0 c.args.self.now c.self.inside.room c.self.view_is c.args.asn (Some c.in-Some.row.now) (sym (ap (get nat_eq c.self.inside.rows) (sym same) ∙ c.in-Some.ensures.value)))
