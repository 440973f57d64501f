use Rattle.std.proofs.Common.{◌≡◌, nat_eq, true, refl, ap, ◌∙◌}
use Rattle.indexmap.specs.IndexMap.{get}
use Rattle.net_names.specs.Numbers.{occurs}
use Rattle.as_graph.specs.Graphs.{is_there}
use Rattle.as_graph.proofs.Kept.{has_read}
use Rattle.as_graph.proofs.Marking.{there_row}
use Rattle.as_graph.proofs.RowAses.{occurs-keys}
use Rattle.as_graph.proofs.graph.Graph.rows.Goals as goal

pub returns-clause-complete : goal.returns-clause-complete
returns-clause-complete c = λ a has_a.
    let there : is_there c.self.inside.rows a ≡ true =
    has_read c.self.inside.rows c.self.inside.order.items c.self.inside.links c.self.invariant.0 c.args.self.now c.self.inside.room c.self.view_is a (get nat_eq c.self.inside.rows a) refl ∙ has_a in
    ap (occurs a) (c.as_slice.ensures ∙ c.keys.ensures.rest) ∙ occurs-keys c.self.inside.rows.entries a ∙ there_row c.self.inside.rows a there
