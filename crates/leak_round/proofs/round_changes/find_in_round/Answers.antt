use Rattle.std.proofs.Common.{◌≡◌, ◌+◌, ◌<◌, Some, length, refl, sym, ◌∙◌, arith}
use Rattle.std.specs.Prelude.{slice_get}
use Rattle.std.proofs.lemmas.Option.{slice_get_within}
use Rattle.stability_laws.specs.World.{setting_in}
use Rattle.stability_laws.specs.Plans.{prefixes_of}
use Rattle.leak_round.specs.Edited.{announced_after, seeds_after}
use Rattle.leak_round.specs.Touched.{touches}
use Rattle.leak_round.proofs.Keeping.{room_left}
use Rattle.leak_round.proofs.Paying.{paid_itself, paid_on}
use Rattle.leak_round.proofs.Roomed.{same_itself, same_on}
use Rattle.leak_round.proofs.Turns.{can_still, up_end, up_more, up_start, up_turn}
use Rattle.leak_round.proofs.round_changes.find_in_round.Goals as goal

pub prefixes-init : goal.prefixes-init
prefixes-init g c = record {
  found = λ first so_far. so_far;
  up = up_start c.args.finding.now.plan.now c.args.changes.now.items c.args.round c.requires.earlier;
  paid = paid_itself c.args.pool.now c.args.changes.now.items 0;
  same = same_itself c.args.tables.now.items;
  within = omega arith;
}

pub find_change-requires : goal.find_change-requires
find_change-requires g c =
    let x = c.args.finding.now in
    let w = setting_in g.P.RoutePolicy.meaning g.V.OriginStates.state_of x.world.now in
    let old = c.prefixes.invariant in
    let at : slice_get (prefixes_of x.plan.now) c.prefixes.place ≡ Some c.in-Some.prefix = sym c.in-Some.ensures.value in
    let within = slice_get_within (prefixes_of x.plan.now) c.prefixes.place c.in-Some.prefix at in
    record {
      ranks = c.requires.ranks;
      can = can_still w x.world.now.graph.now (touches x.touched.now) x.plan.now (seeds_after x.edited.now x.plan.now) x.announced.now (announced_after x.edited.now x.announced.now) c.args.pool.now c.prefixes.pool c.args.tables.now.items c.prefixes.tables.items c.requires.can old.paid.keeps old.same;
      place = at;
      held = λ k. omega (arith, c.requires.held k, old.paid.holds k, old.same.uses k);
      room = room_left c.args.pool.now c.prefixes.pool c.prefixes.place 1 (length (prefixes_of x.plan.now)) old.paid.grows c.requires.room (omega (arith, within));
      so_far = (c.requires.so_far.0, old.found c.requires.so_far.0 c.requires.so_far.1);
      turn = up_turn x.plan.now c.prefixes.changes.items c.args.round c.prefixes.place old.up c.requires.from c.in-Some.ensures.listed c.in-Some.prefix (length c.prefixes.tables.items) at (omega (arith, c.requires.to, old.same.count));
    }

pub returns-in_err-find_change-clause-same : goal.returns-in_err-find_change-clause-same
returns-in_err-find_change-clause-same g c = same_on c.args.tables.now.items c.prefixes.tables.items c.find_change.new.tables.items c.prefixes.invariant.same c.find_change.ensures.same

pub prefixes-smaller : goal.prefixes-smaller
prefixes-smaller g c =
    let x = c.args.finding.now in
    let within : c.prefixes.place < length (prefixes_of x.plan.now) = slice_get_within (prefixes_of x.plan.now) c.prefixes.place c.in-Some.prefix (sym c.in-Some.ensures.value) in
    omega arith

pub prefixes-preserved : goal.prefixes-preserved
prefixes-preserved g c =
    let x = c.args.finding.now in
    let plan = x.plan.now in
    let i = c.prefixes.place in
    let p = c.in-Some.prefix in
    let at : slice_get (prefixes_of plan) i ≡ Some p = sym c.in-Some.ensures.value in
    let old = c.prefixes.invariant in
    let now = c.in_ok-find_change.ensures.found in
    record {
      found = λ first so_far. now.found first (old.found first so_far);
      up = up_more plan c.prefixes.changes.items c.args.round i old.up c.requires.from c.find_change.new.changes.items p at now.added;
      paid = paid_on c.args.pool.now c.prefixes.pool c.find_change.new.pool c.args.changes.now.items c.prefixes.changes.items c.find_change.new.changes.items i 1 (i + 1) old.paid now.paid refl;
      same = same_on c.args.tables.now.items c.prefixes.tables.items c.find_change.new.tables.items old.same c.find_change.ensures.same;
      within = (let within = slice_get_within (prefixes_of plan) i p at in omega (arith, within));
    }

pub returns-clause-more : goal.returns-clause-more
returns-clause-more g c =
    let x = c.args.finding.now in
    up_end x.plan.now c.prefixes.changes.items c.args.round c.prefixes.place c.prefixes.invariant.up c.requires.from c.prefix_at.ensures.listed (sym c.prefix_at.ensures.value ∙ c.in_default.is)
