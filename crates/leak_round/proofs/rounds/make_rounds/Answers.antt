use Rattle.std.proofs.Common.{◌≡◌, ℕ, suc, ◌+◌, ◌*◌, ◌≤◌, List, length, sym, ap, subst, arith}
use Rattle.std.proofs.Math.Nat.{mul-le-mul_right}
use Rattle.as_graph.specs.Topology.{as_count}
use Rattle.stability_laws.specs.Plans.{prefixes_of}
use Rattle.stability_laws.specs.Rounds.{seeds_of}
use Rattle.stability_laws.specs.Stable.{IsStable}
use Rattle.route_choice.specs.declared.round_tables.RoundTables.{RoundTables}
use Rattle.route_choice.specs.RoundTables.{round_routing}
use Rattle.stability_laws.specs.World.{setting_in}
use Rattle.leak_round.specs.Tables.{kept_in, IsRound, AreRoundsFull}
use Rattle.leak_round.proofs.Listing.{cost_more}
use Rattle.leak_round.proofs.Keeping.{announced_kept, room_left}
use Rattle.leak_round.proofs.AllRounds.{rounds_made, rounds_more, rounds_start}
use Rattle.leak_round.proofs.rounds.make_rounds.Goals as goal

pub make_round-requires-clause-can : goal.make_round-requires-clause-can
make_round-requires-clause-can g c =
    let plan = c.args.building.now.plan.now in
    let old = c.loop-past.invariant in
    let is = c.as_slice-earlier.ensures.value in
    let same = ap (λ (ts : List RoundTables). length ts) is in
    record {
      way = c.requires.way;
      scratch_is = old.scratch;
      announced = announced_kept c.args.pool.now c.loop-past.pool old.so_far.keeps plan c.args.building.now.announced.now c.requires.announced;
      earlier_full = subst (AreRoundsFull c.loop-past.pool plan) (sym is) old.so_far.full;
      number = omega (arith, same, old.so_far.count);
    }

pub make_round-requires-clause-room : goal.make_round-requires-clause-room
make_round-requires-clause-room g c =
    let size = length (prefixes_of c.args.building.now.plan.now) in
    let next : c.loop-past._past + 1 ≤ c.args.rounds = omega arith in
    let within : (c.loop-past._past + 1) * size ≤ c.args.rounds * size = mul-le-mul_right size next in
    room_left c.args.pool.now c.loop-past.pool (c.loop-past._past * size) size (c.args.rounds * size) c.loop-past.invariant.so_far.grows c.requires.room (omega (arith, within))

-- the cost stays within the bound of all rounds where a round has ended, also with an error
pub returns-in_err-next-clause-cost : goal.returns-in_err-next-clause-cost
returns-in_err-next-clause-cost g c = cost_more c.args.steps.now c.loop-past.steps c.make_round.new.steps (2 * as_count c.args.building.now.world.now.graph.now * length (prefixes_of c.args.building.now.plan.now)) c.loop-past._past c.args.rounds c.loop-past.invariant.cost c.make_round.ensures.cost (omega arith)

pub returns-in_err-push-clause-cost : goal.returns-in_err-push-clause-cost
returns-in_err-push-clause-cost g c = cost_more c.args.steps.now c.loop-past.steps c.make_round.new.steps (2 * as_count c.args.building.now.world.now.graph.now * length (prefixes_of c.args.building.now.plan.now)) c.loop-past._past c.args.rounds c.loop-past.invariant.cost c.make_round.ensures.cost (omega arith)

pub loop-past-init : goal.loop-past-init
loop-past-init g c =
    let at = setting_in g.P.RoutePolicy.meaning g.V.OriginStates.state_of c.args.building.now.world.now in
    record {
      so_far = rounds_start (λ before p f h. IsStable (at p) (seeds_of c.args.building.now.plan.now (suc before) p f) h) c.args.building.now.plan.now c.args.pool.now c.new-tables.result.items c.new-tables.ensures.items;
      scratch = c.requires.scratch;
      cost = omega arith;
    }

pub loop-past-preserved : goal.loop-past-preserved
loop-past-preserved g c =
    let at = setting_in g.P.RoutePolicy.meaning g.V.OriginStates.state_of c.args.building.now.world.now in
    let plan = c.args.building.now.plan.now in
    let old = c.loop-past.invariant in
    let xs : List RoundTables = c.loop-past.tables.items in
    let t = c.in_ok-next.next in
    let next = c.make_round.new.pool in
    let number : length c.as_slice-earlier.result.now + 1 ≡ suc (length xs) = (let same = ap (λ (ys : List RoundTables). length ys) c.as_slice-earlier.ensures.value in omega (arith, same)) in
    let F : ℕ → List RoundTables → Type 0 = λ n ys. IsRound at plan n (kept_in c.loop-past.pool ys (length ys)) (round_routing next t) in
    let stable : IsRound at plan (suc (length xs)) (kept_in c.loop-past.pool xs (length xs)) (round_routing next t) = coe 0 1 (i. F (number i) (c.as_slice-earlier.ensures.value i)) c.in_ok-next.ensures.stable in
    record {
      so_far = rounds_more (λ before p f h. IsStable (at p) (seeds_of plan (suc before) p f) h) plan c.args.pool.now c.loop-past.pool next c.loop-past._past xs t old.so_far c.in_ok-next.ensures.made stable c.push.new.self.items c.in_ok-push.ensures.items;
      scratch = c.in_ok-next.ensures.scratch;
      cost = cost_more c.args.steps.now c.loop-past.steps c.make_round.new.steps (2 * as_count c.args.building.now.world.now.graph.now * length (prefixes_of plan)) c.loop-past._past (c.loop-past._past + 1) old.cost c.make_round.ensures.cost (omega arith);
    }

pub returns-clause-made : goal.returns-clause-made
returns-clause-made g c =
    let at = setting_in g.P.RoutePolicy.meaning g.V.OriginStates.state_of c.args.building.now.world.now in
    let plan = c.args.building.now.plan.now in
    rounds_made (λ before p f h. IsStable (at p) (seeds_of plan (suc before) p f) h) plan c.args.pool.now c.loop-past.pool c.loop-past.tables.items c.loop-past._past c.args.rounds c.loop-past.invariant.so_far (omega arith)

pub returns-clause-stable : goal.returns-clause-stable
returns-clause-stable g c = λ before prefix less known. c.loop-past.invariant.so_far.fits before prefix (let count = c.loop-past.invariant.so_far.count in omega (arith, less, count)) known

pub returns-clause-cost : goal.returns-clause-cost
returns-clause-cost g c =
    let each = 2 * as_count c.args.building.now.world.now.graph.now * length (prefixes_of c.args.building.now.plan.now) in
    let end : c.loop-past._past ≡ c.args.rounds = omega arith in
    subst (λ (n : ℕ). c.loop-past.steps ≤ c.args.steps.now + each * n) end c.loop-past.invariant.cost
