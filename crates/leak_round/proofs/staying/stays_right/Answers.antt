use Rattle.std.proofs.Common.{not, option_map, sym, ap, ◌∙◌}
use Rattle.net_names.proofs.Shared.{none_from}
use Rattle.route_choice.specs.Routings.{entry_of, table_routing}
use Rattle.route_choice.specs.Tables.{prefix_of}
use Rattle.leak_round.proofs.Stays.{stays_ahead, stays_empty, unoffered}
use Rattle.leak_round.proofs.staying.stays_right.Goals as goal

pub returns-in_default : goal.returns-in_default
returns-in_default g c = λ yes v seeds links starts right.
    let at = c.args.at.now in
    stays_empty g.P.RoutePolicy.meaning v at.graph.now at.book.now (g.V.OriginStates.state_of at.states.now (prefix_of at.table.now)) seeds (table_routing c.args.pool.now at.table.now) c.args.asn c.args.end links
    (ap (option_map (entry_of c.args.pool.now)) (sym c.get_near.ensures ∙ c.in_default.is))
    (unoffered _ c.view_from.result c.view_from.ensures (none_from _ (c.is_none.ensures ∙ ap not yes))) right

pub returns : goal.returns
returns g c = λ yes v seeds links starts right.
    let at = c.args.at.now in
    stays_ahead g.P.RoutePolicy.meaning v at.graph.now at.book.now (g.V.OriginStates.state_of at.states.now (prefix_of at.table.now)) seeds (table_routing c.args.pool.now at.table.now) c.args.asn c.args.end links
    (entry_of c.args.pool.now c.in-Some.entry) (ap (option_map (entry_of c.args.pool.now)) (sym c.get_near.ensures ∙ c.in-Some.is))
    (c.stays_with.ensures yes) c.offer_path.ensures starts right
