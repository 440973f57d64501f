use Rattle.std.proofs.Common.{ap, ◌∙◌}
use Rattle.std.specs.Ordering.{is_lt}
use Rattle.net_names.specs.Prefixes.{prefix_cmp}
use Rattle.net_names.proofs.DerivedOrders.{prefix_order}
use Rattle.roa_table.proofs.row.is_below.Goals as goal

pub returns : goal.returns
returns c = c.is_lt.ensures ∙ ap is_lt (c.cmp.ensures ∙ prefix_order c.prefix.result c.args.prefix ∙ ap (λ p. prefix_cmp p c.args.prefix) c.prefix.ensures)
