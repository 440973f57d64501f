use Rattle.std.proofs.Common.{◌+◌, Ok, Err, subst, sym}
use Rattle.as_graph.specs.Order.{IsStart}
use Rattle.as_graph.proofs.OrderLemmas.{start_some}
use Rattle.as_graph.proofs.order.start_above.Goals as goal

pub returns-in-Ok-clause-start : goal.returns-in-Ok-clause-start
returns-in-Ok-clause-start c = subst (λ o. IsStart c.args.order.now o (c.in-Ok.at + 1)) (sym c.in-Some.is) (start_some c.args.order.now c.requires c.in-Some.asn (Ok c.in-Ok.at) c.in-Ok.ensures.bound c.in-Ok.ensures.position)

pub returns-in-Err-clause-start : goal.returns-in-Err-clause-start
returns-in-Err-clause-start c = subst (λ o. IsStart c.args.order.now o c.in-Err.at) (sym c.in-Some.is) (start_some c.args.order.now c.requires c.in-Some.asn (Err c.in-Err.at) c.in-Err.ensures.bound c.in-Err.ensures.position)
