use Rattle.std.proofs.Common.{arith, refl, ◌≡◌, ◌+◌, ◌-◌, take, sym, subst, ◌∙◌}
use Rattle.std.proofs.lemmas.List.{get_or_read, take_all}
use Rattle.as_graph.specs.Topology.{relation}
use Rattle.policy_laws.specs.Plain.{IsOf}
use Rattle.stability_laws.specs.Steps.{IsStepWhole}
use Rattle.route_choice.specs.declared.choice.Part.TheVariants.{Whole}
use Rattle.route_choice.specs.Routings.{routing_of, seeds_of}
use Rattle.route_choice.specs.PrefixWorlds.{setting_at}
use Rattle.route_choice.specs.NamedSets.{is_named}
use Rattle.three_pass.specs.Passings.{order_of, routing_in, seeds_in}
use Rattle.three_pass.specs.Progress.{AfterWhole}
use Rattle.three_pass.proofs.ByRank.{IsByRank, StandsAt, stands_at, is_listed, is_reached}
use Rattle.three_pass.proofs.InOrder.{turn, down_same, down_more, down_fresh, loops_downwards, all_right}
use Rattle.three_pass.proofs.Origins.{held_of}
use Rattle.three_pass.specs.Told.{AreTrue, IsTold}
use Rattle.three_pass.specs.Telling.{HaveTold}
use Rattle.three_pass.proofs.Passings.{ranked_by}
use Rattle.three_pass.proofs.Quiet.{still_told}
use Rattle.three_pass.proofs.Settled.{settled}
use Rattle.three_pass.proofs.Spending.{can_step, spent_nothing, visited, step_seeds}
use Rattle.three_pass.proofs.pass.Passing.go_down.Given as given
use Rattle.three_pass.proofs.pass.Passing.go_down.Goals as goal
use Rattle.three_pass.proofs.pass.Passing.go_down.Goals.{After-index-asn}

module _ (g : given.Over) (c : After-index-asn g) where
  -- where the next AS stands
  next : StandsAt (order_of c.args.self.now) (c.loop-left.left - 1) c.index-asn.result.now
  next = let left = c.loop-left-test.true in stands_at (order_of c.args.self.now) (c.loop-left.left - 1) c.index-asn.result.now (omega (arith, c.loop-left.invariant.within)) c.index-asn.ensures

  -- how far the pass has come before it
  so_far : AfterWhole (setting_at g.P.RoutePolicy.meaning g.V.OriginStates.state_of c.args.self.now.at) (seeds_in c.args.self.now c.args.pool.now) (take (c.loop-left.left - 1 + 1) (order_of c.args.self.now)) (routing_in c.args.self.now c.loop-left.pool c.loop-left.overlay)
  so_far =
      let left = c.loop-left-test.true in
      let back : c.loop-left.left - 1 + 1 ≡ c.loop-left.left = omega arith in
      subst (λ k. AfterWhole (setting_at g.P.RoutePolicy.meaning g.V.OriginStates.state_of c.args.self.now.at) (seeds_in c.args.self.now c.args.pool.now) (take k (order_of c.args.self.now)) (routing_in c.args.self.now c.loop-left.pool c.loop-left.overlay)) (sym back) c.loop-left.invariant.so_far

  ranked : IsByRank (setting_at g.P.RoutePolicy.meaning g.V.OriginStates.state_of c.args.self.now.at) (order_of c.args.self.now)
  ranked = ranked_by g.P.RoutePolicy.meaning g.met.P.RoutePolicy.ranks_offers g.met.P.RoutePolicy.prefers_customers g.met.P.RoutePolicy.exports_down_only g.V.OriginStates.state_of c.args.self.now c.requires.passing

pub step_down-requires-clause-held : goal.step_down-requires-clause-held
step_down-requires-clause-held g c = λ some.
    let before = (goal.at.step_down-requires-clause-held g c).After-index-asn in
    let p = c.args.self.now in
    let a = c.index-asn.result.now in
    let f = routing_in p c.loop-left.pool c.loop-left.overlay in
    let at = next g before in
    let here = setting_at g.P.RoutePolicy.meaning g.V.OriginStates.state_of p.at in
    step_seeds Whole here (seeds_in p c.args.pool.now) (seeds_in p c.loop-left.pool) f a f
    (settled here (ranked g before).lawful f a (seeds_in p c.args.pool.now) some ((so_far g before).still a (is_reached (order_of p) (c.loop-left.left - 1) a at))
    ((so_far g before).low a (sym (c.requires.passing.course.order.complete a) ∙ is_listed (order_of p) (c.loop-left.left - 1) a at)))
    (sym (c.loop-left.invariant.spent.keeps.same_seeds a))

pub step_down-requires-clause-ready : goal.step_down-requires-clause-ready
step_down-requires-clause-ready g c =
    let before = (goal.at.step_down-requires-clause-ready g c).After-index-asn in
    let p = c.args.self.now in
    let a = c.index-asn.result.now in
    let f = routing_in p c.loop-left.pool c.loop-left.overlay in
    let within = (next g before).within in
    record {
      passing = c.requires.passing;
      inside = within;
      there = sym (get_or_read (order_of p) (c.loop-left.left - 1) a within c.index-asn.ensures 0);
      can = can_step c.loop-left.pool p.at.seeds.now p.at.table.now c.loop-left.overlay (order_of p) c.loop-left.invariant.room (omega (arith, within));
      true_notes = subst (AreTrue (relation p.at.graph.now)) (sym c.loop-left.invariant.same) c.requires.true_notes;
      told = subst (λ t. HaveTold (IsTold t) (setting_at g.P.RoutePolicy.meaning g.V.OriginStates.state_of p.at) f a) (sym c.loop-left.invariant.same) (c.loop-left.invariant.told a);
      origins = c.loop-left.invariant.origins;
      loops = loops_downwards (ranked g before) (seeds_in p c.args.pool.now) (is_named p.named) c.requires.named (c.loop-left.left - 1) a f (next g before) (so_far g before);
    }

pub loop-left-init : goal.loop-left-init
loop-left-init g c =
    let here = setting_at g.P.RoutePolicy.meaning g.V.OriginStates.state_of c.args.self.now.at in
    let laws = ranked_by g.P.RoutePolicy.meaning g.met.P.RoutePolicy.ranks_offers g.met.P.RoutePolicy.prefers_customers g.met.P.RoutePolicy.exports_down_only g.V.OriginStates.state_of c.args.self.now c.requires.passing in
    let xs = c.args.self.now.course.now.order.ases.items in
    let seeds = seeds_of c.args.pool.now c.args.self.now.at.seeds.now in
    let f = routing_of c.args.pool.now c.args.self.now.at.table.now c.args.overlay.now in
    record {
      within = omega (arith, c.len-left.ensures);
      steps = omega (arith, c.len-left.ensures);
      so_far = subst (λ ys. AfterWhole here seeds ys f) (sym (take_all c.len-left.result xs (omega (arith, c.len-left.ensures))))
          (turn laws seeds f c.requires.up);
      origins = c.requires.origins;
      same = refl;
      told = c.requires.told;
      room = c.requires.room;
      spent = spent_nothing c.args.pool.now c.args.self.now.at.seeds.now c.args.self.now.at.table.now c.args.overlay.now xs;
    }

pub loop-left-preserved : goal.loop-left-preserved
loop-left-preserved g c =
    let before = (goal.at.loop-left-preserved g c).After-index-asn in
    let p = c.args.self.now in
    let here = setting_at g.P.RoutePolicy.meaning g.V.OriginStates.state_of p.at in
    let laws = ranked g before in
    let i = c.loop-left.left - 1 in
    let a = c.index-asn.result.now in
    let some = c.loop-left-test.true in
    let seeds = seeds_in p c.args.pool.now in
    let f = routing_in p c.loop-left.pool c.loop-left.overlay in
    let f' = routing_in p c.step_down.new.pool c.step_down.new.overlay in
    let at = next g before in
    let taken = step_seeds Whole here (seeds_in p c.loop-left.pool) seeds f a f' c.step_down.ensures.visit.step (c.loop-left.invariant.spent.keeps.same_seeds a) in
    let step : IsStepWhole here seeds f a f' = record { others = taken.others; right = taken.right } in
    let both = visited c.args.pool.now c.loop-left.pool c.step_down.new.pool p.at.seeds.now p.at.table.now c.args.overlay.now c.loop-left.overlay c.step_down.new.overlay (order_of p) a
    c.requires.passing.course.order.apart (is_listed (order_of p) i a at) c.loop-left.invariant.room c.loop-left.invariant.spent c.step_down.ensures.visit (down_fresh laws seeds i a f f' at step (so_far g before)) in
    record {
      within = omega (arith, c.loop-left.invariant.within);
      steps = omega (arith, c.step_down.ensures.cost, c.loop-left.invariant.steps);
      origins = held_of (IsOf c.args.self.now.all) Whole here seeds f f' a c.requires.seeded c.loop-left.invariant.origins taken;
      so_far = down_more laws seeds i a f f' at step (so_far g before);
      same = c.step_down.ensures.told ∙ c.loop-left.invariant.same;
      told = λ b. still_told (IsTold c.args.gathered.now.told) here f f' b (down_same laws seeds i a f f' at step (so_far g before)) (c.loop-left.invariant.told b);
      room = both.0;
      spent = both.1;
    }

pub returns-clause-done : goal.returns-clause-done
returns-clause-done g c =
    let here = setting_at g.P.RoutePolicy.meaning g.V.OriginStates.state_of c.args.self.now.at in
    let xs = c.args.self.now.course.now.order.ases.items in
    let seeds = seeds_of c.args.pool.now c.args.self.now.at.seeds.now in
    let f = routing_of c.loop-left.pool c.args.self.now.at.table.now c.loop-left.overlay in
    let over : c.loop-left.left ≡ 0 = omega arith in
    all_right here seeds f (subst (λ k. AfterWhole here seeds (take k xs) f) over c.loop-left.invariant.so_far)
