use Rattle.std.proofs.Common.{◌≡◌, ℕ, Option, option_map, sym, ap, ◌∙◌}
use Rattle.stability_laws.specs.declared.entry.Entry.{Entry}
use Rattle.stability_laws.specs.Offers.{Setting}
use Rattle.route_choice.specs.PrefixWorlds.{setting_at}
use Rattle.route_choice.specs.Routings.{entry_of, routing_of}
use Rattle.route_choice.specs.Views.{goes_through}
use Rattle.route_choice.proofs.Lists.{joined_live}
use Rattle.dirty_recompute.proofs.LeftLemmas.{rival_by}
use Rattle.dirty_recompute.proofs.spared.is_rival.Goals as goal

pub view_but_for_loops-requires : goal.view_but_for_loops-requires
view_but_for_loops-requires g c = record { live = λ h e. joined_live c.args.pool.now c.args.at.now.table.now c.args.overlay.now c.requires.held c.args.giver.now.asn h (sym c.held_near-given.ensures ∙ e) }

pub is_clear-requires : goal.is_clear-requires
is_clear-requires g c = λ h e. joined_live c.args.pool.now c.args.at.now.table.now c.args.overlay.now c.requires.held c.args.giver.now.asn h (sym c.held_near-given.ensures ∙ e)

pub returns-then-before : goal.returns-then-before
returns-then-before g c = λ clear a other.
    let meaning = g.P.RoutePolicy.meaning in
    let here : Setting = setting_at meaning g.V.OriginStates.state_of c.args.at.now in
    let f : ℕ → Option Entry = routing_of c.args.pool.now c.args.at.now.table.now c.args.overlay.now in
    let b = c.args.neighbour.now.asn in
    let m = c.args.giver.now.asn in
    let result = c.view_but_for_loops.result in
    let held : f m ≡ option_map (entry_of c.args.pool.now) c.held_near-given.result = ap (option_map (entry_of c.args.pool.now)) (sym c.held_near-given.ensures) in
    let seen = c.view_but_for_loops.ensures c.args.at.now.graph.now f (sym c.in-Some.ensures) held in
    rival_by here f a b m result c.in-Some-view_but_for_loops.offered c.args.view.now other seen (ap (λ (o : Option Entry). goes_through o b) held ∙ c.is_clear.ensures clear) c.in-Some-view_but_for_loops.is
    (ap (λ p. (meaning p).before c.in-Some-view_but_for_loops.offered c.args.view.now) (sym c.policy_near-own.ensures) ∙ sym c.before-in-Some-view_but_for_loops.ensures ∙ c.if-before.true)
