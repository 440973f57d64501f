use Rattle.std.proofs.Common.{rules, ◌≡◌, ◌+◌, length, sym, ap, ◌∙◌}
use Rattle.as_graph.proofs.EditedAses.{one_new, as_count-with_link}
use Rattle.as_graph.proofs.Kept.{counted_read}
use Rattle.as_graph.proofs.graph.Graph.as_count_with.Goals as goal

pub returns : goal.returns
returns c = λ r.
    let len : c.len.result ≡ length c.self.inside.order.items = search rules in
    (λ i. (len ∙ counted_read c.self.inside.rows c.self.inside.order.items c.self.inside.links c.self.invariant.0 c.args.self.now c.self.inside.room c.self.view_is) i + (c.one_new.ensures ∙ ap one_new c.has.ensures) i + (c.one_new-2.ensures ∙ ap one_new c.has-2.ensures) i)
    ∙ sym (as_count-with_link c.args.self.now c.args.a c.args.b r c.requires)
