use Rattle.std.proofs.Common.{inl, inr, ◌∙◌, ap, take_all}
use Rattle.net_names.specs.Numbers.{occurs}
use Rattle.as_graph.specs.declared.neighbour.Neighbour.{Neighbour}
use Rattle.as_graph.specs.Neighbours.{asns}
use Rattle.as_graph.specs.Topology.{relation}
use Rattle.stability_laws.specs.Book.{policy_at}
use Rattle.stability_laws.proofs.BestViews.{among_more}
use Rattle.route_choice.specs.Routings.{routing_of}
use Rattle.route_choice.specs.NamedSets.{is_named}
use Rattle.route_choice.proofs.NoLoops.{no_loops}
use Rattle.route_choice.proofs.loops.may_loop_among.Goals as goal

pub loop-index-preserved : goal.loop-index-preserved
loop-index-preserved g c = λ n e there held.
    let f = routing_of c.args.pool.now c.args.at.now.table.now c.args.overlay.now in
    elim (among_more c.args.neighbours.now c.loop-index.index n c.index-neighbours-index.result c.loop-index-test.true there) [
      | inl is ↦ c.has_origin_of.ensures c.if-has_origin_of.false e (ap (λ (t : Neighbour). f t.asn) c.index-neighbours-index.is ∙ ap f is ∙ held)
      | inr before ↦ c.loop-index.invariant n e before held
    ]

pub returns : goal.returns
returns g c = λ no.
    let f = routing_of c.args.pool.now c.args.at.now.table.now c.args.overlay.now in
    no_loops c.args.turn.now.part (relation c.args.at.now.graph.now) (λ n. g.P.RoutePolicy.meaning (policy_at c.args.at.now.book.now n)) f c.args.turn.now.asn (is_named c.args.named.now c.args.turn.now.asn) c.requires.loops
    (λ n r e linked looked held exported. c.loop-index.invariant n e
    (ap (λ ys. occurs n (asns ys)) (take_all c.loop-index.index c.args.neighbours.now c.loop-index-test.false) ∙ c.requires.givers.complete n r e linked looked held exported) held)
