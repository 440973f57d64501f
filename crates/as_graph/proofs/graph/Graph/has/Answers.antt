use Rattle.std.proofs.Common.{◌∙◌, None, Some}
use Rattle.as_graph.proofs.Kept.{has_read}
use Rattle.as_graph.proofs.graph.Graph.has.Goals as goal

pub returns-in-Some : goal.returns-in-Some
returns-in-Some c = c.is_needed.ensures ∙ has_read c.self.inside.rows c.self.inside.order.items c.self.inside.links c.self.invariant.0 c.args.self.now c.self.inside.room c.self.view_is c.args.asn (Some c.in-Some.row.now) c.in-Some.ensures.value

pub returns-in-None : goal.returns-in-None
returns-in-None c = has_read c.self.inside.rows c.self.inside.order.items c.self.inside.links c.self.invariant.0 c.args.self.now c.self.inside.room c.self.view_is c.args.asn None c.in-None.ensures.value
