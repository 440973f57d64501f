use Rattle.std.proofs.Common.{take}
use Rattle.as_graph.specs.Neighbours.{asns}
use Rattle.stability_laws.specs.Book.{policy_at}
use Rattle.stability_laws.specs.BestView.{IsBestViewOf}
use Rattle.stability_laws.specs.World.{setting}
use Rattle.route_choice.specs.Tables.{joined, prefix_of}
use Rattle.route_choice.specs.Routings.{routing_of}
use Rattle.route_choice.specs.Choices.{offers_of, state_seen, IsGiven}
use Rattle.route_choice.proofs.best.best_view.Given as goal

abbrev pub invariant-loop-index : goal.invariant-loop-index
invariant-loop-index g l =
    let meaning = g.P.RoutePolicy.meaning in
    let here = setting meaning l.at.graph.now l.at.book.now (state_seen l.reads (g.V.OriginStates.state_of l.at.states.now (prefix_of l.at.table.now))) in
    IsBestViewOf (meaning (policy_at l.at.book.now l.fn.turn.asn)) (λ n. offers_of l.fn.turn.part here (routing_of l.pool l.at.table.now l.overlay) l.fn.turn.asn n) (asns (take l.index l.neighbours)) l.best.view
    × IsGiven (joined l.at.table.now l.overlay) l.best.view l.best.given
