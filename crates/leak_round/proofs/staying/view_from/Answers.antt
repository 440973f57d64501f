use Rattle.std.proofs.Common.{ℕ, Option, option_map, sym, ap, ◌∙◌}
use Rattle.stability_laws.specs.declared.entry.Entry.{Entry}
use Rattle.route_choice.specs.PrefixWorlds.{setting_at}
use Rattle.route_choice.specs.Routings.{entry_of, table_routing}
use Rattle.route_choice.specs.Views.{goes_through}
use Rattle.leak_round.proofs.Stays.{no_offer, seen_by}
use Rattle.leak_round.proofs.staying.view_from.Goals as goal

pub returns : goal.returns
returns g c = λ o made.
    let f : ℕ → Option Entry = table_routing c.args.pool.now c.args.at.now.table.now in
    let seen = c.view_but_for_loops.ensures c.args.at.now.graph.now f (sym c.in-Some.ensures) (ap (option_map (entry_of c.args.pool.now)) (sym c.get_near-held.ensures)) in
    seen_by (goes_through (f c.args.giver) c.args.receiver.asn) _ c.view_but_for_loops.result seen o made

pub returns-in_default : goal.returns-in_default
returns-in_default g c = λ o made.
    absurd (no_offer (setting_at g.P.RoutePolicy.meaning g.V.OriginStates.state_of c.args.at.now) (table_routing c.args.pool.now c.args.at.now.table.now) c.args.giver c.args.receiver.asn o (sym c.rel.ensures ∙ c.in_default.is) made)
