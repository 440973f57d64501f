use Rattle.std.proofs.Common.{◌≡◌, ℕ, suc, ◌-◌, ◌≤◌, Option, None, Some, option_map, [], length, refl, subst, ◌∙◌, arith}
use Rattle.std.specs.Prelude.{IsSome}
use Rattle.stability_laws.specs.declared.entry.Seed.{Seed}
use Rattle.stability_laws.specs.Stable.{IsStable}
use Rattle.route_choice.specs.declared.held.Held.{Held}
use Rattle.route_choice.specs.Routings.{entry_of, table_routing}
use Rattle.route_choice.specs.Tables.{held_at}
use Rattle.as_graph.specs.declared.build.TheConstants.{MOST_ASES}
use Rattle.path_pool.specs.declared.pool.PathPool.{PathPool}
use Rattle.stability_laws.specs.World.{setting_in}
use Rattle.leak_round.proofs.Seeding.{held_of-live, seeds_are, seeds_kept, seeds_live}
use Rattle.leak_round.proofs.Counting.{table_entries, few_entries}
use Rattle.leak_round.proofs.round.make_table.Goals as goal

routed : (pool : PathPool) (o : Option Held) → IsSome o → IsSome (option_map (entry_of pool) o)
routed pool None h = h
routed pool (Some x) h = refl

pub propagate_along-requires-clause-can : goal.propagate_along-requires-clause-can
propagate_along-requires-clause-can g c = record {
  no_cycle = c.args.building.now.no_cycle;
  seeds = seeds_live c.args.pool.now c.args.building.now.plan.now c.args.building.now.announced.now c.args.earlier.now [] c.args.round c.args.prefix c.in_ok-seeds.seeds c.in_ok-seeds.ensures c.requires.can.announced
      (λ a h e. held_of-live c.args.pool.now c.args.building.now.plan.now c.args.earlier.now c.requires.can.earlier_full (c.args.round - 1) c.args.prefix a h e);
  counts = λ k. omega (arith, c.requires.room.counts k);
  room = omega (arith, c.requires.room.cells, c.as_count-count.ensures.few);
}

pub returns-clause-stable : goal.returns-clause-stable
returns-clause-stable g c =
    let pool = c.args.pool.now in let plan = c.args.building.now.plan.now in let earlier = c.args.earlier.now in
    let same = λ (a : ℕ). seeds_are pool plan c.args.building.now.announced.now earlier [] c.args.round c.args.prefix c.in_ok-seeds.seeds c.in_ok-seeds.ensures c.requires.can.announced (λ b. refl) c.requires.known a
    ∙ seeds_kept pool plan earlier c.args.round c.args.prefix (let next : c.args.round ≡ suc (length c.args.earlier.now) = omega (arith, c.requires.number) in next) a in
    let F : (ℕ → Option Seed) → Type 0 = λ s. IsStable (setting_in g.P.RoutePolicy.meaning g.V.OriginStates.state_of c.args.building.now.world.now c.args.prefix) s (table_routing c.propagate_along.new.pool c.in_ok-table.table) in
    subst F (λ i a. same a i) c.in_ok-table.ensures.made.stable

pub returns-clause-made : goal.returns-clause-made
returns-clause-made g c =
    let old = c.args.pool.now in
    let new = c.propagate_along.new.pool in
    let graph = c.args.building.now.world.now.graph.now in
    let t = c.in_ok-table.table in
    let f = table_routing new t in
    let now = c.in_ok-table.ensures.made in
    let h = now.cells in
    let few : length h.ases ≤ MOST_ASES = (let n = few_entries graph f h.ases h.distinct h.entries now.stable.only_ases in omega (arith, n, c.as_count-count.ensures.value, c.as_count-count.ensures.few)) in
    record {
      prefix_is = now.prefix;
      live = now.live;
      holds = now.holds;
      cells = table_entries old new f h;
      keeps = record { live = c.in_ok-table.ensures.kept.live; lists = c.in_ok-table.ensures.kept.lists };
      grows = record { cells = omega (arith, h.few, few); counts = λ k. omega (arith, h.counts k, few); limit = c.in_ok-table.ensures.limit };
      small = λ k.
          (let u = c.uses_are_counted.ensures k in
          let n = few_entries graph f u.ases u.distinct (λ a o. routed new (held_at t a) (u.entries a o)) now.stable.only_ases in
          omega (arith, n, u.enough, c.as_count-count.ensures.value, c.as_count-count.ensures.few));
    }
