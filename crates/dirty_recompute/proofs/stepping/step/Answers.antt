use Rattle.std.proofs.Common.{◌≡◌, None, option_map, refl, sym, subst}
use Rattle.std.proofs.lemmas.Bool.{both_ways}
use Rattle.stability_laws.specs.Book.{policy_at}
use Rattle.stability_laws.specs.Offers.{Setting}
use Rattle.stability_laws.specs.Stable.{IsRightGiven}
use Rattle.route_choice.specs.Choices.{named_by, offers_of}
use Rattle.route_choice.specs.PrefixWorlds.{setting_at, HasNoLoopsAt}
use Rattle.route_choice.specs.Routings.{entry_of, routing_of, seeds_of}
use Rattle.route_choice.specs.Tables.{prefix_of}
use Rattle.route_choice.proofs.Lists.{joined_live}
use Rattle.dirty_recompute.specs.Steps.{after, IsChosen}
use Rattle.dirty_recompute.proofs.RoomLemmas.{before_is}
use Rattle.dirty_recompute.proofs.ChosenLemmas.{chosen_by_all, chosen_in, chosen_none, decided, decided_of, gives_up_none, right}
use Rattle.dirty_recompute.proofs.stepping.step.Goals as goal
use Rattle.dirty_recompute.proofs.stepping.step.Goals.{else-nothing-via-then-nothing+else-stays, else-nothing-via-else-nothing}

pub evaluate_near-chosen-requires-clause-live : goal.evaluate_near-chosen-requires-clause-live
evaluate_near-chosen-requires-clause-live g c = joined_live c.args.pool.now c.args.at.now.table.now c.args.overlay.now c.requires.can.held

pub evaluate_near-chosen-requires-clause-no_loops : goal.evaluate_near-chosen-requires-clause-no_loops
evaluate_near-chosen-requires-clause-no_loops g c = λ never.
    let same = decided_of c.args.pool.now c.args.at.now.table.now c.args.overlay.now c.args.turn.now.asn c.args.turn.now.part c.deciding-part.result c.held_near-before.result c.deciding-part.ensures c.held_near-before.ensures in
    subst (λ part. HasNoLoopsAt g.P.RoutePolicy.meaning c.args.at.now c.args.pool.now c.args.overlay.now part c.args.turn.now.asn) (sym same) (c.requires.no_loops never)

pub give_chosen-requires-clause-kept : goal.give_chosen-requires-clause-kept
give_chosen-requires-clause-kept g c =
    let here : Setting = setting_at g.P.RoutePolicy.meaning g.V.OriginStates.state_of c.args.at.now in
    let seeds = seeds_of c.args.pool.now c.args.at.now.seeds.now in
    let f = routing_of c.args.pool.now c.args.at.now.table.now c.args.overlay.now in
    let a = c.args.turn.now.asn in
    let choice = c.evaluate_near-chosen.result.choice in
    let one = c.one_answer.ensures c.args.at.now.graph.now c.args.at.now.book.now (g.V.OriginStates.state_of c.args.at.now.states.now (prefix_of c.args.at.now.table.now)) seeds f a in
    let new = named_by here.policy (seeds a) f a choice in
    let same = decided_of c.args.pool.now c.args.at.now.table.now c.args.overlay.now a c.args.turn.now.part c.deciding-part.result c.held_near-before.result c.deciding-part.ensures c.held_near-before.ensures in
    let is_right = right c.deciding-part.result here seeds a f choice c.is_nothing-nothing.result c.evaluate_near-chosen.ensures.choice c.is_nothing-nothing.ensures in
    gives_up_none c.args.turn.now.part here seeds c.args.pool.now c.args.at.now.table.now c.args.overlay.now a new one.0 one.2
    (decided here seeds c.args.overlay.now a f (g.met.P.RoutePolicy.ranks_offers (policy_at c.args.at.now.book.now a)) c.args.turn.now.part new c.requires.ready
    (subst (λ part. IsRightGiven (here.policy a) (seeds a) (λ n. offers_of part here f a n) new) same is_right)).0 c.requires.ready

pub returns-then-stays-clause-chosen : goal.returns-then-stays-clause-chosen
returns-then-stays-clause-chosen g c =
    let here : Setting = setting_at g.P.RoutePolicy.meaning g.V.OriginStates.state_of c.args.at.now in
    let seeds = seeds_of c.args.pool.now c.args.at.now.seeds.now in
    let f = routing_of c.args.pool.now c.args.at.now.table.now c.args.overlay.now in
    let a = c.args.turn.now.asn in
    let same = decided_of c.args.pool.now c.args.at.now.table.now c.args.overlay.now a c.args.turn.now.part c.deciding-part.result c.held_near-before.result c.deciding-part.ensures c.held_near-before.ensures in
    let chosen = chosen_none c.deciding-part.result here seeds a f c.evaluate_near-chosen.result.choice c.is_nothing-nothing.result c.evaluate_near-chosen.ensures.choice c.is_nothing-nothing.ensures c.if-nothing.true
    (subst (λ h. after c.deciding-part.result None (option_map (entry_of c.args.pool.now) h) ≡ option_map (entry_of c.args.pool.now) h) c.held_near-before.ensures (c.stays.ensures.stays c.if-stays.true c.args.pool.now)) in
    chosen_by_all here seeds c.args.overlay.now a f (g.met.P.RoutePolicy.ranks_offers (policy_at c.args.at.now.book.now a)) c.args.turn.now.part f c.is_nothing-nothing.result c.requires.ready
    (subst (λ part. IsChosen part here seeds a f f c.is_nothing-nothing.result) same chosen)

pub returns-then-stays-clause-before : goal.returns-then-stays-clause-before
returns-then-stays-clause-before g c =
    before_is c.args.pool.now c.args.pool.now c.args.at.now.seeds.now c.args.at.now.table.now c.args.overlay.now c.args.overlay.now c.args.turn.now.asn c.held_near-before.result c.requires.can.held
    (record { live = λ k l. l; lists = λ k l. refl; same_seeds = λ a. refl }) c.held_near-before.ensures (λ n ne. refl)

pub returns-clause-chosen : goal.returns-clause-chosen
returns-clause-chosen g c =
    let here : Setting = setting_at g.P.RoutePolicy.meaning g.V.OriginStates.state_of c.args.at.now in
    let seeds = seeds_of c.args.pool.now c.args.at.now.seeds.now in
    let f = routing_of c.args.pool.now c.args.at.now.table.now c.args.overlay.now in
    let h = routing_of c.give_chosen.new.pool c.args.at.now.table.now c.give_chosen.new.overlay in
    let a = c.args.turn.now.asn in
    let same = decided_of c.args.pool.now c.args.at.now.table.now c.args.overlay.now a c.args.turn.now.part c.deciding-part.result c.held_near-before.result c.deciding-part.ensures c.held_near-before.ensures in
    let chosen = chosen_in c.deciding-part.result here seeds a f c.evaluate_near-chosen.result.choice c.is_nothing-nothing.result c.evaluate_near-chosen.ensures.choice c.is_nothing-nothing.ensures h c.in_ok-changed.ensures.given.at
    (λ none. elim c.else-nothing.branch [
      | else-nothing-via-then-nothing+else-stays w ↦
          subst (λ h. after c.deciding-part.result None (option_map (entry_of c.args.pool.now) h) ≡ None) c.held_near-before.ensures (w.stays.ensures.goes w.if-stays.false c.args.pool.now)
      | else-nothing-via-else-nothing w ↦ absurd (both_ways c.is_nothing-nothing.result w.if-nothing.false (c.is_nothing-nothing.ensures.1 none))
    ]) in
    chosen_by_all here seeds c.args.overlay.now a f (g.met.P.RoutePolicy.ranks_offers (policy_at c.args.at.now.book.now a)) c.args.turn.now.part h c.is_nothing-nothing.result c.requires.ready
    (subst (λ part. IsChosen part here seeds a f h c.is_nothing-nothing.result) same chosen)

pub returns-clause-before : goal.returns-clause-before
returns-clause-before g c =
    before_is c.args.pool.now c.give_chosen.new.pool c.args.at.now.seeds.now c.args.at.now.table.now c.args.overlay.now c.give_chosen.new.overlay c.args.turn.now.asn c.held_near-before.result c.requires.can.held
    c.give_chosen.ensures.kept.keeps c.held_near-before.ensures c.in_ok-changed.ensures.given.only.others
