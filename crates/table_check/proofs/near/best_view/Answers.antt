use Rattle.std.proofs.Common.{◌+◌, refl, sym, subst, take, take_all}
use Rattle.as_graph.specs.Neighbours.{asns}
use Rattle.stability_laws.specs.Book.{policy_at}
use Rattle.stability_laws.specs.Offers.{offer}
use Rattle.stability_laws.specs.BestView.{IsBestViewOf}
use Rattle.stability_laws.specs.World.{setting}
use Rattle.table_check.specs.Rows.{held_by}
use Rattle.table_check.proofs.BestNear.{one_neighbour_more, best_of_neighbours}
use Rattle.table_check.proofs.near.best_view.Goals as goal

pub loop-neighbour-preserved : goal.loop-neighbour-preserved
loop-neighbour-preserved g c =
    let here = setting g.P.RoutePolicy.meaning c.args.world.now.graph.now c.args.world.now.book.now (g.V.OriginStates.state_of c.args.world.now.states.now c.args.prefix) in
    let held = held_by c.args.placed.now.table.now c.args.placed.now.round in
    let a = c.args.receiver.now.asn in
    let step = one_neighbour_more here held a (g.met.P.RoutePolicy.ranks_offers (policy_at c.args.world.now.book.now a)) c.args.neighbours.now c.loop-neighbour.neighbour-index c.neighbour-item.result c.loop-neighbour-test.true c.neighbour-item.is c.loop-neighbour.best _ refl c.loop-neighbour.invariant in
    subst (IsBestViewOf (here.policy a) (λ n. offer here held n a) (asns (take (c.loop-neighbour.neighbour-index + 1) c.args.neighbours.now))) (sym c.better_with-best.ensures) step

pub returns : goal.returns
returns g c =
    let here = setting g.P.RoutePolicy.meaning c.args.world.now.graph.now c.args.world.now.book.now (g.V.OriginStates.state_of c.args.world.now.states.now c.args.prefix) in
    let held = held_by c.args.placed.now.table.now c.args.placed.now.round in
    let a = c.args.receiver.now.asn in
    let xs = c.args.neighbours.now in
    best_of_neighbours here held a (g.met.P.RoutePolicy.ranks_offers (policy_at c.args.world.now.book.now a)) xs c.requires.complete
    c.loop-neighbour.best (subst (λ ys. IsBestViewOf (here.policy a) (λ n. offer here held n a) (asns ys) c.loop-neighbour.best) (take_all c.loop-neighbour.neighbour-index xs c.loop-neighbour-test.false) c.loop-neighbour.invariant)
