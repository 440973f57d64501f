use Rattle.std.proofs.Common.{length, subst, take_all, ◌∙◌}
use Rattle.routing_tree.specs.Chosen.{LooksUpAt}
use Rattle.routing_tree.proofs.Choices.{IsBest, LooksUp, best_chosen, customer_weighed, inside, inside_at, no_customer_yet}
use Rattle.routing_tree.proofs.tree.RoutingTree.best_customer.Goals as goal

pub loop-customer-init : goal.loop-customer-init
loop-customer-init g c = no_customer_yet (g.P.RoutePolicy.meaning c.args.own.now) c.args.placed.now.ases.now c.args.self.now c.list-customer-items.result.now

pub weigh-best-requires-clause-inside : goal.weigh-best-requires-clause-inside
weigh-best-requires-clause-inside g c = inside_at (length c.args.placed.now.ases.now) c.args.placed.now.links.now.customers c.args.at c.list-customer-items.result.now c.loop-customer.customer-index c.requires.lists.customers c.list-customer-items.ensures c.loop-customer-test.true

pub loop-customer-preserved : goal.loop-customer-preserved
loop-customer-preserved g c =
    customer_weighed (g.P.RoutePolicy.meaning c.args.own.now) c.args.placed.now.ases.now c.args.self.now (g.met.P.RoutePolicy.ranks_offers c.args.own.now) c.list-customer-items.result.now c.loop-customer.customer-index c.loop-customer-test.true
    c.loop-customer.best c.weigh-best.result c.weigh-best.ensures c.loop-customer.invariant

pub returns : goal.returns
returns g c = λ distinct.
    let p = g.P.RoutePolicy.meaning c.args.own.now in
    let ases = c.args.placed.now.ases.now in
    let t = c.args.self.now in
    best_chosen p ases t (g.met.P.RoutePolicy.ranks_offers c.args.own.now) (LooksUpAt c.args.placed.now.links.now c.args.at) (λ r j l. inside (length ases) c.args.placed.now.links.now.customers c.args.at c.requires.lists.customers j l.1) c.loop-customer.best
    (subst (λ xs. IsBest p ases t (LooksUp xs) c.loop-customer.best) (take_all c.loop-customer.customer-index c.list-customer-items.result.now c.loop-customer-test.false ∙ c.list-customer-items.ensures) c.loop-customer.invariant) distinct
