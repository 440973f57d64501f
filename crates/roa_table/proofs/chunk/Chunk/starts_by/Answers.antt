use Rattle.std.proofs.Common.{ap, ◌∙◌, not}
use Rattle.std.specs.Ordering.{is_lt}
use Rattle.net_names.proofs.DerivedOrders.{prefix_order}
use Rattle.roa_table.proofs.chunk.Chunk.starts_by.Goals as goal

pub returns : goal.returns
returns c = ap not (c.is_lt.ensures ∙ ap is_lt (c.cmp.ensures ∙ prefix_order c.args.prefix c.args.self.now.low))
