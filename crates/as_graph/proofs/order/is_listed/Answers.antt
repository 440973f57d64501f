use Rattle.std.proofs.Common.{◌∙◌}
use Rattle.as_graph.proofs.OrderLemmas.{searched_listed}
use Rattle.as_graph.proofs.order.is_listed.Goals as goal

pub returns : goal.returns
returns c = c.is_ok.ensures.value ∙ searched_listed c.args.order.now c.requires c.args.asn c.binary_search.result c.binary_search.ensures.bound c.binary_search.ensures.position
