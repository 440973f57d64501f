use Rattle.std.proofs.Common.{◌≡◌, ℕ, ◌+◌, ◌-◌, ◌*◌, ◌≤◌, Option, option_map, Result, Ok, Err, [], List, length, sym, ap, subst, ◌∙◌, arith}
use Rattle.std.proofs.lemmas.Result.{IfOk-weaker}
use Rattle.std.specs.Prelude.{slice_get, OnOk}
use Rattle.std.specs.Ordering.{nat_cmp}
use Rattle.std.proofs.Math.Nat.{mul-le-mul_right}
use Rattle.stability_laws.specs.World.{setting_in}
use Rattle.stability_laws.specs.Plans.{prefixes_of, ListsRising}
use Rattle.leak_round.specs.declared.changes.Change.{Change}
use Rattle.leak_round.specs.declared.plans.RoundsDone.{RoundsDone}
use Rattle.leak_round.specs.Edited.{announced_after, seeds_after}
use Rattle.leak_round.specs.Found.{AreFound, AreFoundUpTo, IsPaid}
use Rattle.leak_round.specs.Plans.{ases_told}
use Rattle.leak_round.specs.Told.{IsToldOf}
use Rattle.leak_round.specs.Touched.{touches}
use Rattle.leak_round.proofs.Keeping.{room_left}
use Rattle.leak_round.proofs.Paying.{paid_itself, paid_on}
use Rattle.leak_round.proofs.Roomed.{same_itself, same_on}
use Rattle.leak_round.proofs.Turns.{can_still, none_found, found_none}
use Rattle.leak_round.proofs.whole_edit.find_and_tell.Goals as goal

pub loop-past-init : goal.loop-past-init
loop-past-init g c =
    let x = c.args.finding.now in
    let w = setting_in g.P.RoutePolicy.meaning g.V.OriginStates.state_of x.world.now in
    let none = sym c.requires.none in
    record {
      found = subst (λ (zs : List Change). AreFound w x.world.now.graph.now (touches x.touched.now) x.plan.now (seeds_after x.edited.now x.plan.now) c.args.pool.now c.args.tables.now.items zs c.args.steps.now c.args.steps.now) none
          (found_none w x.world.now.graph.now (touches x.touched.now) x.plan.now (seeds_after x.edited.now x.plan.now) c.args.pool.now c.args.tables.now.items c.args.steps.now);
      past_found = subst (λ (zs : List Change). AreFoundUpTo x.plan.now zs 0) none (none_found x.plan.now);
      paid = subst (λ (zs : List Change). IsPaid c.args.pool.now c.args.pool.now [] zs (0 * length (prefixes_of x.plan.now))) none (paid_itself c.args.pool.now [] (0 * length (prefixes_of x.plan.now)));
      same = same_itself c.args.tables.now.items;
    }

pub find_in_round-requires : goal.find_in_round-requires
find_in_round-requires g c =
    let x = c.args.finding.now in
    let w = setting_in g.P.RoutePolicy.meaning g.V.OriginStates.state_of x.world.now in
    let size = length (prefixes_of x.plan.now) in
    let old = c.loop-past.invariant in
    let all : c.len-rounds.result ≡ length c.args.tables.now.items = omega (arith, c.len-rounds.ensures, c.args.tables.now.ok.0) in
    let next : c.loop-past.past + 1 ≤ length c.args.tables.now.items = omega (arith, all) in
    let within : (c.loop-past.past + 1) * size ≤ length c.args.tables.now.items * size = mul-le-mul_right size next in
    let same : c.loop-past.past ≡ c.loop-past.past + 1 - 1 = omega arith in
    record {
      ranks = c.requires.can.ranks;
      can = can_still w x.world.now.graph.now (touches x.touched.now) x.plan.now (seeds_after x.edited.now x.plan.now) x.announced.now (announced_after x.edited.now x.announced.now) c.args.pool.now c.loop-past.pool c.args.tables.now.items c.loop-past.tables.items c.requires.can.can old.paid.keeps old.same;
      held = λ k. omega (arith, c.requires.can.held k, old.paid.holds k, old.same.uses k);
      room = room_left c.args.pool.now c.loop-past.pool (c.loop-past.past * size) size (length c.args.tables.now.items * size) old.paid.grows c.requires.can.room (omega (arith, within));
      so_far = (c.args.steps.now, old.found);
      from = omega arith;
      to = omega (arith, next, old.same.count);
      earlier = subst (AreFoundUpTo x.plan.now c.loop-past.changes.items) same old.past_found;
    }

pub returns-in_err-find_in_round-clause-same : goal.returns-in_err-find_in_round-clause-same
returns-in_err-find_in_round-clause-same g c = same_on c.args.tables.now.items c.loop-past.tables.items c.find_in_round.new.tables.items c.loop-past.invariant.same c.find_in_round.ensures.same

pub loop-past-preserved : goal.loop-past-preserved
loop-past-preserved g c =
    let x = c.args.finding.now in
    let size = length (prefixes_of x.plan.now) in
    let old = c.loop-past.invariant in
    let now = c.in_ok-find_in_round.ensures in
    record {
      found = now.found c.args.steps.now old.found;
      past_found = now.more;
      paid = paid_on c.args.pool.now c.loop-past.pool c.find_in_round.new.pool [] c.loop-past.changes.items c.find_in_round.new.changes.items (c.loop-past.past * size) size ((c.loop-past.past + 1) * size) old.paid now.paid (omega arith);
      same = same_on c.args.tables.now.items c.loop-past.tables.items c.find_in_round.new.tables.items old.same now.same;
    }

pub listed-requires-clause-listed : goal.listed-requires-clause-listed
listed-requires-clause-listed g c = λ i x at. c.loop-past.invariant.found.changes.listed i x (ap (λ (xs : List Change). slice_get xs i) (sym c.as_slice.ensures.value) ∙ at)

pub listed-requires-clause-apart : goal.listed-requires-clause-apart
listed-requires-clause-apart g c = λ i j x y less here there.
    let is = sym c.as_slice.ensures.value in
    c.loop-past.invariant.found.changes.apart i j x y less (ap (λ (xs : List Change). slice_get xs i) is ∙ here) (ap (λ (xs : List Change). slice_get xs j) is ∙ there)

-- what holds anyway holds where nothing is refused
on_ok : {T E P : Type 0} (r : Result T E) → P → OnOk r P
on_ok (Ok x) holds = holds
on_ok (Err e) holds = tt

pub returns-clause-found : goal.returns-clause-found
returns-clause-found g c =
    let x = c.args.finding.now in
    let end : c.loop-past.past ≡ length c.args.tables.now.items = omega (arith, c.len-rounds.ensures, c.args.tables.now.ok.0) in
    on_ok c.listed.result (record {
      found = c.loop-past.invariant.found;
      whole = subst (AreFoundUpTo x.plan.now c.loop-past.changes.items) end c.loop-past.invariant.past_found;
      paid = subst (λ (n : ℕ). IsPaid c.args.pool.now c.loop-past.pool [] c.loop-past.changes.items (n * length (prefixes_of x.plan.now))) end c.loop-past.invariant.paid;
    })

pub returns-clause-told : goal.returns-clause-told
returns-clause-told g c =
    let Told = λ (cs : List Change) (o : Option ℕ) (rounds : ℕ) (d : RoundsDone). (round : ℕ) → 1 ≤ round → round ≤ rounds → ListsRising nat_cmp (IsToldOf cs o round) (ases_told d round) in
    let xs : c.as_slice.result.now ≡ c.loop-past.changes.items = c.as_slice.ensures.value in
    let count : c.len-rounds.result ≡ length c.args.tables.now.items = omega (arith, c.len-rounds.ensures, c.args.tables.now.ok.0) in
    IfOk-weaker c.listed.result (Told c.as_slice.result.now c.edited_asn.result c.len-rounds.result) (Told c.loop-past.changes.items (option_map (λ e. e.asn) c.args.finding.now.edited.now) (length c.args.tables.now.items))
    (λ d h. coe 0 1 (i. Told (xs i) (c.edited_asn.ensures i) (count i) d) h) c.listed.ensures.told
