use Rattle.std.proofs.Common.{sym, ◌∙◌, false, arith}
use Rattle.as_graph.proofs.RowWrites.{none_from}
use Rattle.as_graph.proofs.Marking.{topology_of-unmarked, roomy-marked}
use Rattle.as_graph.proofs.GraphEdits.{seen_unmarked, seen_unmarked_none, kept-unmarked}
use Rattle.as_graph.proofs.graph.Graph.unmark.Goals as goal

pub invariant_of-self : goal.invariant_of-self
invariant_of-self c = (
  kept-unmarked c.self.inside.rows c.set_mark.new.rows c.self.inside.order.items c.unlist_lone.new.order.items c.self.inside.links c.args.asn c.set_mark.ensures c.self.invariant.0 c.unlist_lone.ensures.this c.unlist_lone.ensures.others c.unlist_lone.ensures.rising c.unlist_lone.ensures.len,
  roomy-marked c.self.inside.rows c.set_mark.new.rows c.args.asn false c.set_mark.ensures _ _ c.self.inside.room c.self.inside.room c.self.invariant.1 (omega (arith, c.self.invariant.1.ordered, c.unlist_lone.ensures.places)) (λ a b is. is),
)

pub returns-then-contains_key : goal.returns-then-contains_key
returns-then-contains_key c =
    seen_unmarked c.self.inside.rows c.set_mark.new.rows c.self.inside.room c.self.inside.room c.args.self.now c.self.view_is c.args.asn (topology_of-unmarked c.self.inside.rows c.set_mark.new.rows c.args.asn c.set_mark.ensures c.self.invariant.0.graph)

pub returns-else-contains_key : goal.returns-else-contains_key
returns-else-contains_key c = seen_unmarked_none c.self.inside.rows c.self.inside.room c.args.self.now c.args.asn c.self.invariant.0.graph c.self.view_is (none_from _ (sym c.if-contains_key.false ∙ c.contains_key.ensures))
