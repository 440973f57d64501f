use Rattle.std.proofs.Common.{take}
use Rattle.as_graph.specs.Neighbours.{asns}
use Rattle.stability_laws.specs.Book.{policy_at}
use Rattle.stability_laws.specs.Offers.{offer}
use Rattle.route_choice.specs.Leads.{IsLeadOf, IsOffered}
use Rattle.route_choice.specs.PrefixWorlds.{setting_at}
use Rattle.route_choice.specs.Routings.{routing_of}
use Rattle.route_choice.specs.Tables.{joined}
use Rattle.route_choice.proofs.plain.best_provider.Given as goal

abbrev pub invariant-loop-index : goal.invariant-loop-index
invariant-loop-index g l =
    IsLeadOf (IsOffered (setting_at g.P.RoutePolicy.meaning g.V.OriginStates.state_of l.at) (routing_of l.pool l.at.table.now l.overlay) l.fn.asn)
    (g.P.RoutePolicy.meaning (policy_at l.at.book.now l.fn.asn)) l.pool (joined l.at.table.now l.overlay)
    (λ n. offer (setting_at g.P.RoutePolicy.meaning g.V.OriginStates.state_of l.at) (routing_of l.pool l.at.table.now l.overlay) n l.fn.asn) (asns (take l.index l.providers)) l.lead
