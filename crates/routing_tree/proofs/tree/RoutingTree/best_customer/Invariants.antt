use Rattle.std.proofs.Common.{take}
use Rattle.routing_tree.proofs.Choices.{IsBest, LooksUp}
use Rattle.routing_tree.proofs.tree.RoutingTree.best_customer.Given as goal

abbrev pub invariant-loop-customer : goal.invariant-loop-customer
invariant-loop-customer g l = IsBest (g.P.RoutePolicy.meaning l.own) l.placed.ases.now l.self (LooksUp (take l.customer-index l.customer-items)) l.best
