use Rattle.std.proofs.Common.{arith, inl, inr, ◌≡◌, None, Some, ◌+◌, ◌<◌, length, ◌∙◌, sym, option_map, take, ap, subst}
use Rattle.std.proofs.lemmas.Bool.{cases_eq}
use Rattle.std.proofs.lemmas.List.{get_or_read, take_all}
use Rattle.net_names.specs.Numbers.{occurs}
use Rattle.as_graph.specs.Topology.{relation}
use Rattle.as_graph.proofs.Links.{relation_mutual}
use Rattle.policy_laws.specs.Plain.{IsOf}
use Rattle.route_choice.specs.declared.choice.Part.TheVariants.{Up}
use Rattle.route_choice.specs.Routings.{entry_of, routing_of, seeds_of}
use Rattle.route_choice.specs.PrefixWorlds.{setting_at}
use Rattle.route_choice.proofs.Numbers.{in_more}
use Rattle.route_choice.specs.NamedSets.{is_named}
use Rattle.three_pass.specs.Told.{IsTold}
use Rattle.three_pass.proofs.ByRank.{by_rank, stands_at}
use Rattle.three_pass.proofs.InOrder.{none_yet, up_more, up_fresh, loops_upwards}
use Rattle.three_pass.proofs.Origins.{held_of}
use Rattle.three_pass.proofs.Quiet.{told_from}
use Rattle.three_pass.proofs.Spending.{can_step, spent_nothing, spent_more, step_seeds}
use Rattle.three_pass.proofs.pass.Passing.go_up.Goals as goal

pub loop-place-init : goal.loop-place-init
loop-place-init g c =
    let pool = c.args.pool.now in
    let here = setting_at g.P.RoutePolicy.meaning g.V.OriginStates.state_of c.args.self.now.at in
    record {
      steps = omega arith;
      so_far = none_yet here (seeds_of pool c.args.self.now.at.seeds.now) (routing_of pool c.args.self.now.at.table.now c.args.overlay.now) (λ a. ap (option_map (entry_of pool)) (c.requires.empty a));
      holders = λ b n r there some linked other. cc;
      origins = λ n e is. (let x : None ≡ Some e = sym (ap (option_map (entry_of pool)) (c.requires.empty n)) ∙ is in cc);
      true_notes = c.requires.true_notes;
      room = c.requires.room;
      spent = spent_nothing pool c.args.self.now.at.seeds.now c.args.self.now.at.table.now c.args.overlay.now c.args.self.now.course.now.order.ases.items;
    }

pub step_up-requires-clause-nothing : goal.step_up-requires-clause-nothing
step_up-requires-clause-nothing g c =
    let ranked = by_rank g.P.RoutePolicy.meaning g.met.P.RoutePolicy.ranks_offers g.met.P.RoutePolicy.prefers_customers g.met.P.RoutePolicy.exports_down_only g.V.OriginStates.state_of c.args.self.now.at c.args.self.now.course.now c.requires.passing.no_cycle c.requires.passing.course in
    let xs = c.args.self.now.course.now.order.ases.items in
    let i = c.loop-place.place in
    let a = c.index-asn.result.now in
    let at = stands_at xs i a (omega (arith, c.loop-place-test.true, c.len-place-end.ensures)) c.index-asn.ensures in
    up_fresh ranked (seeds_of c.args.pool.now c.args.self.now.at.seeds.now) i a (routing_of c.loop-place.pool c.args.self.now.at.table.now c.loop-place.overlay) at c.loop-place.invariant.so_far

pub step_up-requires-clause-ready : goal.step_up-requires-clause-ready
step_up-requires-clause-ready g c =
    let here = setting_at g.P.RoutePolicy.meaning g.V.OriginStates.state_of c.args.self.now.at in
    let ranked = by_rank g.P.RoutePolicy.meaning g.met.P.RoutePolicy.ranks_offers g.met.P.RoutePolicy.prefers_customers g.met.P.RoutePolicy.exports_down_only g.V.OriginStates.state_of c.args.self.now.at c.args.self.now.course.now c.requires.passing.no_cycle c.requires.passing.course in
    let xs = c.args.self.now.course.now.order.ases.items in
    let a = c.index-asn.result.now in
    let done = take c.loop-place.place xs in
    let f = routing_of c.loop-place.pool c.args.self.now.at.table.now c.loop-place.overlay in
    let within : c.loop-place.place < length xs = omega (arith, c.loop-place-test.true, c.len-place-end.ensures) in
    record {
      passing = c.requires.passing;
      inside = within;
      there = sym (get_or_read xs c.loop-place.place a within c.index-asn.ensures 0);
      can = can_step c.loop-place.pool c.args.self.now.at.seeds.now c.args.self.now.at.table.now c.loop-place.overlay xs c.loop-place.invariant.room (omega (arith, within));
      true_notes = c.loop-place.invariant.true_notes;
      told = told_from (IsTold c.loop-place.gathered.told) here f done (relation_mutual c.args.self.now.at.graph.now) c.loop-place.invariant.so_far.rest c.loop-place.invariant.holders a;
      origins = c.loop-place.invariant.origins;
      loops = λ none. loops_upwards ranked (seeds_of c.args.pool.now c.args.self.now.at.seeds.now) (is_named c.args.self.now.named) c.requires.named done f c.loop-place.invariant.so_far a;
    }

pub loop-place-preserved : goal.loop-place-preserved
loop-place-preserved g c =
    let here = setting_at g.P.RoutePolicy.meaning g.V.OriginStates.state_of c.args.self.now.at in
    let ranked = by_rank g.P.RoutePolicy.meaning g.met.P.RoutePolicy.ranks_offers g.met.P.RoutePolicy.prefers_customers g.met.P.RoutePolicy.exports_down_only g.V.OriginStates.state_of c.args.self.now.at c.args.self.now.course.now c.requires.passing.no_cycle c.requires.passing.course in
    let xs = c.args.self.now.course.now.order.ases.items in
    let i = c.loop-place.place in
    let a = c.index-asn.result.now in
    let seeds = seeds_of c.args.pool.now c.args.self.now.at.seeds.now in
    let f = routing_of c.loop-place.pool c.args.self.now.at.table.now c.loop-place.overlay in
    let f' = routing_of c.step_up.new.pool c.args.self.now.at.table.now c.step_up.new.overlay in
    let at = stands_at xs i a (omega (arith, c.loop-place-test.true, c.len-place-end.ensures)) c.index-asn.ensures in
    let step = step_seeds Up here (seeds_of c.loop-place.pool c.args.self.now.at.seeds.now) seeds f a f' c.step_up.ensures.step (c.loop-place.invariant.spent.keeps.same_seeds a) in
    record {
      steps = omega (arith, c.step_up.ensures.cost, c.loop-place.invariant.steps);
      origins = held_of (IsOf c.args.self.now.all) Up here seeds f f' a c.requires.seeded c.loop-place.invariant.origins step;
      so_far = up_more ranked seeds i a f f' at step c.loop-place.invariant.so_far;
      holders = λ b n r there some linked other. elim (cases_eq b a) [
        | inl e ↦ subst (IsTold c.step_up.new.gathered.told n) (sym e) (c.step_up.ensures.told.around (λ none. some (ap f' e ∙ none)) n r (ap (λ t. relation c.args.self.now.at.graph.now t n) (sym e) ∙ linked) other)
        | inr ne ↦ elim (in_more b a (take i xs) (take (i + 1) xs) at.more there) [
          | inl e ↦ absurd (ne (sym e))
          | inr e ↦ c.step_up.ensures.told.others n b (c.loop-place.invariant.holders b n r e (λ none. some (step.others b ne ∙ none)) linked other)
        ]
      ];
      true_notes = c.step_up.ensures.told.true_notes;
      room = c.step_up.ensures.room;
      spent = spent_more c.args.pool.now c.loop-place.pool c.step_up.new.pool c.args.self.now.at.seeds.now c.args.self.now.at.table.now c.args.overlay.now c.loop-place.overlay c.step_up.new.overlay xs c.loop-place.invariant.spent c.step_up.ensures.spent;
    }

pub returns-clause-told : goal.returns-clause-told
returns-clause-told g c = λ b n r there some linked other.
    c.loop-place.invariant.holders b n r (ap (occurs b) (take_all c.loop-place.place c.args.self.now.course.now.order.ases.items (omega (arith, c.loop-place-test.false, c.len-place-end.ensures))) ∙ there) some linked other
