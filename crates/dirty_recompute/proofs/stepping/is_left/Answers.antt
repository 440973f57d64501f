use Rattle.std.proofs.Common.{inl, sym, ◌∙◌, ap}
use Rattle.std.specs.Prelude.{is_some}
use Rattle.route_choice.specs.Tables.{prefix_of, seed_at}
use Rattle.route_choice.specs.Routings.{seeds_of}
use Rattle.route_choice.proofs.Lists.{joined_live, seed_there}
use Rattle.dirty_recompute.specs.Resources.{as_before}
use Rattle.dirty_recompute.proofs.Befores.{is_as_before}
use Rattle.dirty_recompute.proofs.LeftLemmas.{gone_left, beaten_left}
use Rattle.dirty_recompute.proofs.stepping.is_left.Goals as goal

pub returns-then-is_some : goal.returns-then-is_some
returns-then-is_some g c = λ t.
    inl (seed_there c.args.after.now.pool.now (seed_at c.args.after.now.world.now.at.seeds.now c.args.neighbour) (ap is_some (sym c.get.ensures) ∙ sym c.is_some.ensures ∙ c.if-is_some.true))

pub view_but_for_loops-requires : goal.view_but_for_loops-requires
view_but_for_loops-requires g c = record { live = λ h e. joined_live c.args.after.now.pool.now c.args.after.now.world.now.at.table.now c.args.after.now.overlay.now c.args.after.now.held c.args.after.now.asn h (sym c.held_near-now.ensures ∙ e) }

pub may_be_over-requires-clause-have : goal.may_be_over-requires-clause-have
may_be_over-requires-clause-have g c = λ h e. joined_live c.args.after.now.pool.now c.args.after.now.world.now.at.table.now c.args.after.now.overlay.now c.args.after.now.held c.args.neighbour h (sym c.held_near-have.ensures ∙ e)

pub has_rival-requires-clause-have : goal.has_rival-requires-clause-have
has_rival-requires-clause-have g c = λ h e. joined_live c.args.after.now.pool.now c.args.after.now.world.now.at.table.now c.args.after.now.overlay.now c.args.after.now.held c.args.neighbour h (sym c.held_near-have.ensures ∙ e)

pub returns-in-Some-view_but_for_loops : goal.returns-in-Some-view_but_for_loops
returns-in-Some-view_but_for_loops g c = λ rival.
    let x = c.args.after.now in
    beaten_left g.P.RoutePolicy.meaning c.args.after.now.world.now.at.graph.now c.args.after.now.world.now.at.book.now (g.V.OriginStates.state_of c.args.after.now.world.now.at.states.now (prefix_of c.args.after.now.world.now.at.table.now)) c.args.after.now.pool.now (seeds_of c.args.after.now.pool.now c.args.after.now.world.now.at.seeds.now)
    c.args.after.now.world.now.at.table.now c.args.after.now.overlay.now c.args.after.now.asn c.args.neighbour c.in-Some.rel c.args.after.now.stepped.before c.held_near-now.result c.held_near-have.result c.view_but_for_loops.result
    (sym c.in-Some.ensures) c.held_near-now.ensures c.held_near-have.ensures c.view_but_for_loops.ensures c.offer_path.ensures c.links_are_sound.ensures.to_itself
    (c.may_be_over.ensures c.if-may_be_over.false) c.in-Some-view_but_for_loops.view c.in-Some-view_but_for_loops.is (c.has_rival.ensures rival)
    (as_before x.pool.now x.world.now.at.table.now x.overlay.now x.asn x.stepped.before) (is_as_before x.pool.now x.world.now.at.table.now x.overlay.now x.asn x.stepped.before x.live)

pub returns-in-None : goal.returns-in-None
returns-in-None g c = λ t.
    let x = c.args.after.now in
    gone_left g.P.RoutePolicy.meaning c.args.after.now.world.now.at.graph.now c.args.after.now.world.now.at.book.now (g.V.OriginStates.state_of c.args.after.now.world.now.at.states.now (prefix_of c.args.after.now.world.now.at.table.now)) c.args.after.now.pool.now (seeds_of c.args.after.now.pool.now c.args.after.now.world.now.at.seeds.now)
    c.args.after.now.world.now.at.table.now c.args.after.now.overlay.now c.args.after.now.asn c.args.neighbour c.in-Some.rel c.args.after.now.stepped.before c.held_near-now.result c.held_near-have.result c.view_but_for_loops.result
    (sym c.in-Some.ensures) c.held_near-now.ensures c.held_near-have.ensures c.view_but_for_loops.ensures c.offer_path.ensures c.links_are_sound.ensures.to_itself
    (c.may_be_over.ensures c.if-may_be_over.false) c.in-None.is
    (as_before x.pool.now x.world.now.at.table.now x.overlay.now x.asn x.stepped.before) (is_as_before x.pool.now x.world.now.at.table.now x.overlay.now x.asn x.stepped.before x.live)
