use Rattle.std.proofs.Common.{sym, ◌∙◌, None, Some}
use Rattle.as_graph.proofs.Kept.{relation_read}
use Rattle.as_graph.proofs.graph.Graph.rel.Goals as goal

pub returns-in_err-get : goal.returns-in_err-get
returns-in_err-get c = c.from_residual.ensures ∙ sym (relation_read c.self.inside.rows c.self.inside.order.items c.self.inside.links c.self.invariant.0 c.args.self.now c.self.inside.room c.self.view_is c.args.a c.args.b None c.in_err-get.ensures.value)

pub returns : goal.returns
returns c = c.rel.ensures ∙ sym (relation_read c.self.inside.rows c.self.inside.order.items c.self.inside.links c.self.invariant.0 c.args.self.now c.self.inside.room c.self.view_is c.args.a c.args.b (Some c.in_ok-get.field-0.now) c.in_ok-get.ensures.value)
