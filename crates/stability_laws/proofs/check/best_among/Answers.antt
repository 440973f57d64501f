use Rattle.std.proofs.Common.{◌≡◌, ◌+◌, sym, subst, take}
use Rattle.std.specs.FinMap as map
use Rattle.as_graph.specs.Neighbours.{asns}
use Rattle.stability_laws.specs.Book.{policy_at}
use Rattle.stability_laws.specs.Offers.{offer}
use Rattle.stability_laws.specs.BestView.{IsBestViewOf, better_of}
use Rattle.stability_laws.specs.World.{setting}
use Rattle.stability_laws.proofs.BestViews.{best_of_next, best_of_neighbours}
use Rattle.stability_laws.proofs.check.best_among.Goals as goal

pub loop-neighbour-preserved : goal.loop-neighbour-preserved
loop-neighbour-preserved g c =
    let here = setting g.P.RoutePolicy.meaning c.args.world.now.graph.now c.args.world.now.book.now (g.V.OriginStates.state_of c.args.world.now.states.now c.args.prefix) in
    let own = here.policy c.args.asn in
    let i = c.loop-neighbour.neighbour-index in
    let new = c.view_from-view.result in
    let step = best_of_next here (map.get c.args.routing.now) c.args.asn (g.met.P.RoutePolicy.ranks_offers (policy_at c.args.world.now.book.now c.args.asn)) c.args.neighbours.now i c.neighbour-item.result c.loop-neighbour-test.true c.neighbour-item.is
    c.loop-neighbour.best new c.view_from-view.ensures c.loop-neighbour.invariant in
    let seen : c.better-best.result ≡ better_of (g.P.RoutePolicy.meaning c.policy-own.result.now) c.loop-neighbour.best new = c.better-best.ensures in
    let is : c.better-best.result ≡ better_of own c.loop-neighbour.best new = subst (λ p. c.better-best.result ≡ better_of (g.P.RoutePolicy.meaning p) c.loop-neighbour.best new) c.policy-own.ensures seen in
    subst (IsBestViewOf own (λ n. offer here (map.get c.args.routing.now) n c.args.asn) (asns (take (i + 1) c.args.neighbours.now))) (sym is) step

pub returns : goal.returns
returns g c =
    let here = setting g.P.RoutePolicy.meaning c.args.world.now.graph.now c.args.world.now.book.now (g.V.OriginStates.state_of c.args.world.now.states.now c.args.prefix) in
    best_of_neighbours here (map.get c.args.routing.now) c.args.asn (g.met.P.RoutePolicy.ranks_offers (policy_at c.args.world.now.book.now c.args.asn)) c.args.neighbours.now c.loop-neighbour.neighbour-index c.requires c.loop-neighbour-test.false
    c.loop-neighbour.best c.loop-neighbour.invariant
