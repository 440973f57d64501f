use Rattle.std.proofs.Common.{◌≡◌, ◌+◌, ◌⊎◌, true, sym, subst, take, take_all}
use Rattle.net_names.specs.Numbers.{occurs}
use Rattle.as_graph.specs.Neighbours.{asns}
use Rattle.stability_laws.specs.Book.{policy_at}
use Rattle.stability_laws.specs.BestView.{IsBestViewOf}
use Rattle.stability_laws.specs.World.{setting}
use Rattle.stability_laws.proofs.BestViews.{among_more}
use Rattle.route_choice.specs.Tables.{prefix_of}
use Rattle.route_choice.specs.Routings.{routing_of}
use Rattle.route_choice.specs.Choices.{offers_of, state_seen}
use Rattle.route_choice.proofs.BestOffers.{best_of_givers, best_with}
use Rattle.route_choice.proofs.best.best_view.Goals as goal

pub loop-index-preserved : goal.loop-index-preserved
loop-index-preserved g c =
    let here = setting g.P.RoutePolicy.meaning c.args.at.now.graph.now c.args.at.now.book.now (state_seen c.args.reads (g.V.OriginStates.state_of c.args.at.now.states.now (prefix_of c.args.at.now.table.now))) in
    let f = routing_of c.args.pool.now c.args.at.now.table.now c.args.overlay.now in
    let xs = c.args.neighbours.now in
    let i = c.loop-index.index in
    let step = best_with c.args.turn.part here f c.args.turn.asn (g.met.P.RoutePolicy.ranks_offers (policy_at c.args.at.now.book.now c.args.turn.asn))
    c.index-neighbours-index.result.asn (asns (take i xs)) (asns (take (i + 1) xs))
    (λ m is. subst (λ t. (t.asn ≡ m) ⊎ (occurs m (asns (take i xs)) ≡ true)) (sym c.index-neighbours-index.is) (among_more xs i m c.index-neighbours-index.result c.loop-index-test.true is))
    c.loop-index.best.view c.loop-index.invariant.0 in
    (subst (IsBestViewOf (here.policy c.args.turn.asn) (λ n. offers_of c.args.turn.part here f c.args.turn.asn n) (asns (take (i + 1) xs))) (sym c.look_at.ensures.view) step, c.look_at.ensures.given c.loop-index.invariant.1)

pub returns-clause-best : goal.returns-clause-best
returns-clause-best g c =
    let here = setting g.P.RoutePolicy.meaning c.args.at.now.graph.now c.args.at.now.book.now (state_seen c.args.reads (g.V.OriginStates.state_of c.args.at.now.states.now (prefix_of c.args.at.now.table.now))) in
    let f = routing_of c.args.pool.now c.args.at.now.table.now c.args.overlay.now in
    best_of_givers c.args.turn.part here f c.args.turn.asn (g.met.P.RoutePolicy.ranks_offers (policy_at c.args.at.now.book.now c.args.turn.asn)) c.args.neighbours.now c.requires.givers c.loop-index.best.view
    (subst (λ ys. IsBestViewOf (here.policy c.args.turn.asn) (λ n. offers_of c.args.turn.part here f c.args.turn.asn n) (asns ys) c.loop-index.best.view) (take_all c.loop-index.index c.args.neighbours.now c.loop-index-test.false) c.loop-index.invariant.0)
