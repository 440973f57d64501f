use Rattle.std.proofs.Common.{inl, true, ◌≡◌, ◌==◌, ◌∙◌, option_map, ap, refl, sym, subst}
use Rattle.std.proofs.lemmas.Bool.{eq-eqb}
use Rattle.std.proofs.lemmas.List.Folds.{list_any_at}
use Rattle.net_names.specs.Numbers.{occurs}
use Rattle.policy_laws.specs.declared.policy.Stance.TheVariants.{Nothing}
use Rattle.policy_laws.specs.Plain.{IsOf, TakesNone}
use Rattle.stability_laws.specs.Book.{policy_at}
use Rattle.route_choice.specs.declared.choice.Part.TheVariants.{Up}
use Rattle.route_choice.specs.Routings.{routing_of, seed_of, seeds_of}
use Rattle.route_choice.specs.PrefixWorlds.{setting_at}
use Rattle.three_pass.specs.Spending.{CanGo, HasSpent}
use Rattle.three_pass.specs.Told.{IsTold}
use Rattle.three_pass.proofs.ByRank.{all_lawful}
use Rattle.three_pass.proofs.Idle.{idle}
use Rattle.three_pass.proofs.Origins.{none_of}
use Rattle.three_pass.proofs.Quiet.{quiet, up_none}
use Rattle.three_pass.proofs.Spending.{spent_nothing, visited}
use Rattle.three_pass.proofs.pass.Passing.step_up.Given as given
use Rattle.three_pass.proofs.pass.Passing.step_up.Goals as goal

pub returns-then-has_none_to_take-clause-step : goal.returns-then-has_none_to_take-clause-step
returns-then-has_none_to_take-clause-step g c =
    let here = setting_at g.P.RoutePolicy.meaning g.V.OriginStates.state_of c.args.self.now.at in
    let lawful = all_lawful g.P.RoutePolicy.meaning g.met.P.RoutePolicy.ranks_offers g.met.P.RoutePolicy.prefers_customers g.met.P.RoutePolicy.exports_down_only (policy_at c.args.self.now.at.book.now) in
    let a = c.args.placed.asn in
    let none = c.has_none_to_take.ensures c.if-has_none_to_take.true in
    let f = routing_of c.args.pool.now c.args.self.now.at.table.now c.args.overlay.now in
    let no_seed = ap (option_map (seed_of c.args.pool.now)) (c.requires.ready.passing.unnamed c.args.placed.asn none.0) in
    idle Up here (seeds_of c.args.pool.now c.args.self.now.at.seeds.now) f a no_seed c.requires.nothing
    (up_none here lawful f a (quiet (IsTold c.args.gathered.now.told) here f a c.requires.ready.told none.1))

pub returns-then-takes_none-clause-step : goal.returns-then-takes_none-clause-step
returns-then-takes_none-clause-step g c =
    let here = setting_at g.P.RoutePolicy.meaning g.V.OriginStates.state_of c.args.self.now.at in
    let a = c.args.placed.asn in
    let f = routing_of c.args.pool.now c.args.self.now.at.table.now c.args.overlay.now in
    let (unnamed, at) = c.takes_none.ensures c.if-takes_none.true in
    let none = (c.requires.ready.passing.stances c.args.placed.place Nothing at).nothing.0 refl in
    let no_seed = ap (option_map (seed_of c.args.pool.now)) (c.requires.ready.passing.unnamed a (sym c.has-may_loop.ensures.value ∙ unnamed)) in
    idle Up here (seeds_of c.args.pool.now c.args.self.now.at.seeds.now) f a no_seed c.requires.nothing
    (none_of (IsOf c.args.self.now.all) Up here f a c.requires.ready.origins (subst (λ b. TakesNone (here.policy b) (IsOf c.args.self.now.all)) c.requires.ready.there none))

pub returns-then-takes_none-clause-told : goal.returns-then-takes_none-clause-told
returns-then-takes_none-clause-told g c = record { around = λ some. absurd (some c.requires.nothing); others = λ a b told. told; true_notes = c.requires.ready.true_notes }

pub returns-clause-step : goal.returns-clause-step
returns-clause-step g c = c.step_and_tell.ensures.visit.step

-- what the step took
both : (g : given.Over) (c : goal.After-step_and_tell g) → CanGo c.step_and_tell.new.pool c.args.self.now.at.seeds.now c.args.self.now.at.table.now c.step_and_tell.new.overlay c.args.self.now.course.now.order.ases.items × HasSpent c.args.pool.now c.step_and_tell.new.pool c.args.self.now.at.seeds.now c.args.self.now.at.table.now c.args.overlay.now c.step_and_tell.new.overlay c.args.self.now.course.now.order.ases.items
both g c =
    let xs = c.args.self.now.course.now.order.ases.items in
    let a = c.args.placed.asn in
    let there : occurs a xs ≡ true = list_any_at (λ y. y == a) xs c.args.placed.place 0 c.requires.ready.inside (eq-eqb _ a c.requires.ready.there) in
    visited c.args.pool.now c.args.pool.now c.step_and_tell.new.pool c.args.self.now.at.seeds.now c.args.self.now.at.table.now c.args.overlay.now c.args.overlay.now c.step_and_tell.new.overlay xs a
    c.requires.ready.passing.course.order.apart there c.requires.room (spent_nothing c.args.pool.now c.args.self.now.at.seeds.now c.args.self.now.at.table.now c.args.overlay.now xs) c.step_and_tell.ensures.visit (inl c.requires.nothing)

pub returns-clause-room : goal.returns-clause-room
returns-clause-room g c = (both g c).0

pub returns-clause-spent : goal.returns-clause-spent
returns-clause-spent g c = (both g c).1

pub returns-then-has_none_to_take-clause-told : goal.returns-then-has_none_to_take-clause-told
returns-then-has_none_to_take-clause-told g c = record { around = λ some. absurd (some c.requires.nothing); others = λ a b told. told; true_notes = c.requires.ready.true_notes }
