use Rattle.std.proofs.Common.{ℕ, ◌+◌, ◌*◌, ◌<◌, ◌≤◌, Option, length, sym, ap, subst, ◌∙◌, arith}
use Rattle.std.proofs.lemmas.Option.{slice_get_within}
use Rattle.as_graph.specs.Topology.{as_count}
use Rattle.net_names.specs.Prefixes.{PrefixValue}
use Rattle.stability_laws.specs.declared.entry.Entry.{Entry}
use Rattle.stability_laws.specs.Stable.{IsStable}
use Rattle.stability_laws.specs.Plans.{prefixes_of}
use Rattle.stability_laws.specs.Rounds.{seeds_of}
use Rattle.route_choice.specs.RoundTables.{table_at, PutsTable}
use Rattle.route_choice.specs.Routings.{table_routing}
use Rattle.stability_laws.specs.World.{setting_in}
use Rattle.leak_round.specs.Tables.{kept_in}
use Rattle.leak_round.proofs.Listing.{cost_more}
use Rattle.leak_round.proofs.Keeping.{announced_kept, rounds_full_kept, all_kept, room_left}
use Rattle.leak_round.proofs.Rounding.{round_start, none_yet, round_more, round_made, round_fits}
use Rattle.leak_round.proofs.round.make_round.Given as given
use Rattle.leak_round.proofs.round.make_round.Goals as goal
use Rattle.leak_round.proofs.round.make_round.Goals.{After-make_table}

pub make_table-requires-clause-can : goal.make_table-requires-clause-can
make_table-requires-clause-can g c =
    let can = c.requires.can in
    let keeps = c.prefixes.invariant.so_far.keeps in
    let plan = c.args.building.now.plan.now in
    record {
      way = can.way;
      scratch_is = c.prefixes.invariant.scratch;
      announced = announced_kept c.args.pool.now c.prefixes.pool keeps plan c.args.building.now.announced.now can.announced;
      earlier_full = rounds_full_kept c.args.pool.now c.prefixes.pool keeps plan c.args.earlier.now can.earlier_full;
      number = can.number;
    }

pub make_table-requires-clause-room : goal.make_table-requires-clause-room
make_table-requires-clause-room g c =
    let within = slice_get_within (prefixes_of c.args.building.now.plan.now) c.prefixes.place c.in-Some.prefix (sym c.in-Some.ensures.value) in
    room_left c.args.pool.now c.prefixes.pool c.prefixes.place 1 (length (prefixes_of c.args.building.now.plan.now)) c.prefixes.invariant.so_far.grows c.requires.room (omega (arith, within))

-- the cost stays within the bound of all tables where one more is made, also with an error
cost_within : (g : given.Over) (c : After-make_table g) → c.make_table.new.steps ≤ c.args.steps.now + 2 * as_count c.args.building.now.world.now.graph.now * length (prefixes_of c.args.building.now.plan.now)
cost_within g c =
    let within = slice_get_within (prefixes_of c.args.building.now.plan.now) c.prefixes.place c.in-Some.prefix (sym c.in-Some.ensures.value) in
    cost_more c.args.steps.now c.prefixes.steps c.make_table.new.steps (2 * as_count c.args.building.now.world.now.graph.now) c.prefixes.place (length (prefixes_of c.args.building.now.plan.now)) c.prefixes.invariant.cost c.make_table.ensures.cost (omega (arith, within))

pub returns-in_err-table-clause-cost : goal.returns-in_err-table-clause-cost
returns-in_err-table-clause-cost g c = cost_within g (goal.at.returns-in_err-table-clause-cost g c).After-make_table

pub push-requires : goal.push-requires
push-requires g c =
    let at = setting_in g.P.RoutePolicy.meaning g.V.OriginStates.state_of c.args.building.now.world.now in
    ap (table_at c.prefixes.tables) c.in_ok-table.ensures.made.prefix_is
    ∙ none_yet (λ (q : PrefixValue) (f : ℕ → Option Entry). IsStable (at q) (seeds_of c.args.building.now.plan.now (length c.args.earlier.now + 1) q (kept_in c.args.pool.now c.args.earlier.now (length c.args.earlier.now) q)) f) c.args.building.now.plan.now c.args.pool.now c.prefixes.pool c.make_table.new.pool c.prefixes.tables c.prefixes.tables c.prefixes.place c.in-Some.prefix c.in_ok-table.table c.prefixes.invariant.so_far c.in-Some.ensures.listed (sym c.in-Some.ensures.value)

pub returns-in_err-push-clause-cost : goal.returns-in_err-push-clause-cost
returns-in_err-push-clause-cost g c = cost_within g (goal.at.returns-in_err-push-clause-cost g c).After-make_table

pub prefixes-smaller : goal.prefixes-smaller
prefixes-smaller g c =
    let within : c.prefixes.place < length (prefixes_of c.args.building.now.plan.now) = slice_get_within (prefixes_of c.args.building.now.plan.now) c.prefixes.place c.in-Some.prefix (sym c.in-Some.ensures.value) in
    omega arith

pub prefixes-preserved : goal.prefixes-preserved
prefixes-preserved g c =
    let at = setting_in g.P.RoutePolicy.meaning g.V.OriginStates.state_of c.args.building.now.world.now in
    let plan = c.args.building.now.plan.now in
    let earlier = c.args.earlier.now in
    let first = c.args.pool.now in
    let p = c.in-Some.prefix in
    let within = slice_get_within (prefixes_of plan) c.prefixes.place p (sym c.in-Some.ensures.value) in
    let table = c.in_ok-table.ensures in
    let made = table.made in
    let same = all_kept first c.prefixes.pool c.prefixes.invariant.so_far.keeps plan earlier c.requires.can.earlier_full (length earlier) p in
    let F : (ℕ → Option Entry) → Type 0 = λ f. IsStable (at p) (seeds_of plan (length c.args.earlier.now + 1) p f) (table_routing c.make_table.new.pool c.in_ok-table.table) in
    record {
      so_far = round_more (λ (q : PrefixValue) (f : ℕ → Option Entry). IsStable (at q) (seeds_of plan (length c.args.earlier.now + 1) q (kept_in first earlier (length earlier) q)) f) plan first c.prefixes.pool c.make_table.new.pool c.prefixes.tables c.push.new.self c.prefixes.place p c.in_ok-table.table c.prefixes.invariant.so_far c.in-Some.ensures.listed (sym c.in-Some.ensures.value)
          made.keeps made.grows made.holds made.live (subst F (λ i a. same a i) table.stable) made.cells
          (subst (λ q. PutsTable c.prefixes.tables c.push.new.self q c.in_ok-table.table) made.prefix_is c.in_ok-push.ensures.ok) c.in_ok-push.ensures.by_prefix made.small;
      within = omega (arith, within);
      scratch = c.in_ok-table.ensures.scratch;
      cost = cost_more c.args.steps.now c.prefixes.steps c.make_table.new.steps (2 * as_count c.args.building.now.world.now.graph.now) c.prefixes.place (c.prefixes.place + 1) c.prefixes.invariant.cost c.make_table.ensures.cost (omega arith);
    }

pub returns-clause-stable : goal.returns-clause-stable
returns-clause-stable g c =
    let at = setting_in g.P.RoutePolicy.meaning g.V.OriginStates.state_of c.args.building.now.world.now in
    round_fits (λ (q : PrefixValue) (f : ℕ → Option Entry). IsStable (at q) (seeds_of c.args.building.now.plan.now (length c.args.earlier.now + 1) q (kept_in c.args.pool.now c.args.earlier.now (length c.args.earlier.now) q)) f) c.args.building.now.plan.now c.args.pool.now c.prefixes.pool c.prefixes.tables c.prefixes.place c.prefixes.invariant.so_far c.prefix_at.ensures.listed (sym c.prefix_at.ensures.value ∙ c.in_default.is)

pub returns-clause-made : goal.returns-clause-made
returns-clause-made g c =
    let at = setting_in g.P.RoutePolicy.meaning g.V.OriginStates.state_of c.args.building.now.world.now in
    round_made (λ (q : PrefixValue) (f : ℕ → Option Entry). IsStable (at q) (seeds_of c.args.building.now.plan.now (length c.args.earlier.now + 1) q (kept_in c.args.pool.now c.args.earlier.now (length c.args.earlier.now) q)) f) c.args.building.now.plan.now c.args.pool.now c.prefixes.pool c.prefixes.tables c.prefixes.place c.prefixes.invariant.so_far c.prefix_at.ensures.listed (sym c.prefix_at.ensures.value ∙ c.in_default.is) c.prefixes.invariant.within

pub prefixes-init : goal.prefixes-init
prefixes-init g c =
    let at = setting_in g.P.RoutePolicy.meaning g.V.OriginStates.state_of c.args.building.now.world.now in
    record {
      so_far = round_start (λ (q : PrefixValue) (f : ℕ → Option Entry). IsStable (at q) (seeds_of c.args.building.now.plan.now (length c.args.earlier.now + 1) q (kept_in c.args.pool.now c.args.earlier.now (length c.args.earlier.now) q)) f) c.args.building.now.plan.now c.args.pool.now c.new-tables.result c.new-tables.ensures.none c.new-tables.ensures.uses;
      within = omega arith;
      scratch = c.requires.can.scratch_is;
      cost = omega arith;
    }
