use Rattle.std.proofs.Common.{take}
use Rattle.as_graph.specs.Neighbours.{asns}
use Rattle.stability_laws.specs.Book.{policy_at}
use Rattle.stability_laws.specs.Offers.{offer}
use Rattle.stability_laws.specs.BestView.{IsBestViewOf}
use Rattle.stability_laws.specs.World.{setting}
use Rattle.table_check.specs.Rows.{held_by}
use Rattle.table_check.proofs.near.best_view.Given as goal

abbrev pub invariant-loop-neighbour : goal.invariant-loop-neighbour
invariant-loop-neighbour g l =
    let meaning = g.P.RoutePolicy.meaning in
    let here = setting meaning l.world.graph.now l.world.book.now (g.V.OriginStates.state_of l.world.states.now l.prefix) in
    IsBestViewOf (meaning (policy_at l.world.book.now l.receiver.asn)) (λ n. offer here (held_by l.placed.table.now l.placed.round) n l.receiver.asn) (asns (take l.neighbour-index l.neighbours)) l.best
