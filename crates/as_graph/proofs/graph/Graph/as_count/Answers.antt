use Rattle.std.proofs.Common.{rules, length, ◌≡◌, ◌∙◌}
use Rattle.as_graph.proofs.Kept.{counted_read}
use Rattle.as_graph.proofs.graph.Graph.as_count.Goals as goal

pub returns-clause-value : goal.returns-clause-value
returns-clause-value c =
    let len : c.len.result ≡ length c.self.inside.order.items = search rules in
    len ∙ counted_read c.self.inside.rows c.self.inside.order.items c.self.inside.links c.self.invariant.0 c.args.self.now c.self.inside.room c.self.view_is
