use Rattle.std.proofs.Common.{◌≡◌, ◌≢◌, true, false, Option, Some, None, is_some, option_map, arith, refl, sym, ◌∙◌, subst, ap}
use Rattle.net_names.specs.Numbers.{last_or}
use Rattle.path_pool.specs.declared.pool.PathPool.{PathPool}
use Rattle.route_choice.specs.declared.held.Held.{Held}
use Rattle.route_choice.specs.Routings.{entry_of, routing_of, seed_of, seeds_of}
use Rattle.route_choice.specs.Tables.{joined}
use Rattle.route_choice.specs.NamedSets.{is_named}
use Rattle.route_choice.proofs.Leads.{offered_within, takes_within}
use Rattle.route_choice.proofs.NoLoops.{no_loops}
use Rattle.as_graph.specs.Topology.{relation}
use Rattle.policy_laws.specs.declared.policy.Stance.TheVariants.{Nothing, Plain}
use Rattle.policy_laws.specs.Plain.{IsOf, TakesNone, TakesPlainly}
use Rattle.stability_laws.specs.Book.{policy_at}
use Rattle.route_choice.specs.declared.choice.Part.TheVariants.{Whole}
use Rattle.route_choice.specs.Givers.{AreGivers}
use Rattle.route_choice.specs.Leads.{ArePlainSenders, IsOffered}
use Rattle.route_choice.specs.PrefixWorlds.{setting_at}
use Rattle.three_pass.proofs.Idle.{idle, unmoved}
use Rattle.three_pass.proofs.Origins.{none_of}
use Rattle.three_pass.proofs.Passings.{untold_givers}
use Rattle.three_pass.proofs.pass.Passing.step_down.Goals as goal

-- who holds something holds an entry
joined_some : (pool : PathPool) (h : Option Held) → is_some h ≡ true → option_map (entry_of pool) h ≢ None
joined_some pool None some none = cc
joined_some pool (Some x) some none = cc

pub returns-then-holds-clause-visit : goal.returns-then-holds-clause-visit
returns-then-holds-clause-visit g c =
    let here = setting_at g.P.RoutePolicy.meaning g.V.OriginStates.state_of c.args.self.now.at in
    unmoved Whole here c.args.self.now.at.seeds.now c.args.self.now.at.table.now c.args.pool.now c.args.overlay.now c.args.placed.asn
    (c.requires.held (λ none. joined_some c.args.pool.now (joined c.args.self.now.at.table.now c.args.overlay.now c.args.placed.asn) (sym c.holds.ensures ∙ c.if-holds.true) none))

joined_none : (pool : PathPool) (h : Option Held) → is_some h ≡ false → option_map (entry_of pool) h ≡ None
joined_none pool None none = refl
joined_none pool (Some x) none = cc

pub visit_providers-requires-clause-nothing : goal.visit_providers-requires-clause-nothing
visit_providers-requires-clause-nothing g c = joined_none c.args.pool.now (joined c.args.self.now.at.table.now c.args.overlay.now c.args.placed.asn) (sym c.holds.ensures ∙ c.if-holds.false)

pub visit_providers-requires-clause-unseeded : goal.visit_providers-requires-clause-unseeded
visit_providers-requires-clause-unseeded g c = c.requires.ready.passing.unnamed c.args.placed.asn (sym c.has-may_loop.ensures.value ∙ c.is_plainly_untold.ensures.unnamed c.if-is_plainly_untold.true)

pub visit_providers-requires-clause-own : goal.visit_providers-requires-clause-own
visit_providers-requires-clause-own g c =
    let here = setting_at g.P.RoutePolicy.meaning g.V.OriginStates.state_of c.args.self.now.at in
    let a = c.args.placed.asn in
    let f = routing_of c.args.pool.now c.args.self.now.at.table.now c.args.overlay.now in
    let plain = (c.requires.ready.passing.stances c.args.placed.place Plain (c.is_plainly_untold.ensures.plain c.if-is_plainly_untold.true)).plain.0 refl in
    takes_within (here.policy a) (IsOf c.args.self.now.all) (IsOffered here f a) (offered_within here f a (IsOf c.args.self.now.all) c.requires.ready.origins)
    (subst (λ b. TakesPlainly (here.policy b) (IsOf c.args.self.now.all)) c.requires.ready.there plain.0)

pub visit_providers-requires-clause-plain : goal.visit_providers-requires-clause-plain
visit_providers-requires-clause-plain g c =
    let plain = (c.requires.ready.passing.stances c.args.placed.place Plain (c.is_plainly_untold.ensures.plain c.if-is_plainly_untold.true)).plain.0 refl in
    subst (ArePlainSenders (λ n. g.P.RoutePolicy.meaning (policy_at c.args.self.now.at.book.now n))) (sym c.list-above.ensures) plain.1

pub returns-then-takes_none-clause-visit : goal.returns-then-takes_none-clause-visit
returns-then-takes_none-clause-visit g c =
    let here = setting_at g.P.RoutePolicy.meaning g.V.OriginStates.state_of c.args.self.now.at in
    let a = c.args.placed.asn in
    let pool = c.args.pool.now in
    let seeds = c.args.self.now.at.seeds.now in
    let f = routing_of pool c.args.self.now.at.table.now c.args.overlay.now in
    let (unnamed, at) = c.takes_none.ensures c.if-takes_none.true in
    let none = none_of (IsOf c.args.self.now.all) Whole here f a c.requires.ready.origins (subst (λ b. TakesNone (here.policy b) (IsOf c.args.self.now.all)) c.requires.ready.there ((c.requires.ready.passing.stances c.args.placed.place Nothing at).nothing.0 refl)) in
    let no_seed = ap (option_map (seed_of pool)) (c.requires.ready.passing.unnamed a (sym c.has-may_loop.ensures.value ∙ unnamed)) in
    unmoved Whole here seeds c.args.self.now.at.table.now pool c.args.overlay.now a
    (idle Whole here (seeds_of pool seeds) f a no_seed (joined_none pool (joined c.args.self.now.at.table.now c.args.overlay.now a) (sym c.holds.ensures ∙ c.if-holds.false)) none)

pub visit_providers-requires-clause-givers : goal.visit_providers-requires-clause-givers
visit_providers-requires-clause-givers g c =
    let at = c.args.self.now.at in
    subst (AreGivers Whole (relation at.graph.now) (λ n. g.P.RoutePolicy.meaning (policy_at at.book.now n)) (routing_of c.args.pool.now at.table.now c.args.overlay.now) c.args.placed.asn) (sym c.list-above.ensures)
    (untold_givers g.P.RoutePolicy.meaning g.met.P.RoutePolicy.ranks_offers g.met.P.RoutePolicy.prefers_customers g.met.P.RoutePolicy.exports_down_only g.V.OriginStates.state_of c.args.self.now c.args.gathered.now.told c.args.pool.now c.args.overlay.now
    Whole c.args.placed.asn c.args.placed.place c.requires.ready (c.is_plainly_untold.ensures.untold c.if-is_plainly_untold.true))

pub visit_providers-requires-clause-no_loops : goal.visit_providers-requires-clause-no_loops
visit_providers-requires-clause-no_loops g c =
    let out = c.is_plainly_untold.ensures.unnamed c.if-is_plainly_untold.true in
    let none : routing_of c.args.pool.now c.args.self.now.at.table.now c.args.overlay.now c.args.placed.asn ≡ None = joined_none c.args.pool.now (joined c.args.self.now.at.table.now c.args.overlay.now c.args.placed.asn) (sym c.holds.ensures ∙ c.if-holds.false) in
    no_loops Whole (relation c.args.self.now.at.graph.now) (λ n. g.P.RoutePolicy.meaning (policy_at c.args.self.now.at.book.now n)) (routing_of c.args.pool.now c.args.self.now.at.table.now c.args.overlay.now)
    c.args.placed.asn (is_named c.args.self.now.named c.args.placed.asn) (c.requires.ready.loops none) (λ n r e linked looked held exported. c.has-may_loop.ensures.none out (last_or 0 e.path))

pub step-requires-clause-unnamed : goal.step-requires-clause-unnamed
step-requires-clause-unnamed g c = c.has-may_loop.ensures.none

pub step-requires-clause-nothing : goal.step-requires-clause-nothing
step-requires-clause-nothing g c = joined_none c.args.pool.now (joined c.args.self.now.at.table.now c.args.overlay.now c.args.placed.asn) (sym c.holds.ensures ∙ c.if-holds.false)

pub list-above-requires : goal.list-above-requires
list-above-requires g c = omega (arith, c.requires.ready.inside, c.requires.ready.passing.course.above.count)

pub places-above_places-requires : goal.places-above_places-requires
places-above_places-requires g c = omega (arith, c.requires.ready.inside, c.requires.ready.passing.course.above.count)
