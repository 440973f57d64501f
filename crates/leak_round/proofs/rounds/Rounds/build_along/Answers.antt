use Rattle.std.proofs.Common.{◌≡◌, suc, ◌-◌, ◌≤◌, List, length, arith, sym, ap, subst, ◌∙◌}
use Rattle.net_names.specs.Prefixes.{PrefixValue}
use Rattle.path_pool.specs.declared.pool.PathPool.{PathPool}
use Rattle.path_pool.specs.Pool.{live_count}
use Rattle.stability_laws.specs.Rounds.{AreRounds}
use Rattle.stability_laws.specs.World.{setting_in}
use Rattle.route_choice.specs.declared.round_tables.RoundTables.{RoundTables}
use Rattle.three_pass.specs.declared.course.Course.{Course}
use Rattle.three_pass.specs.Scratches.{IsScratch}
use Rattle.leak_round.specs.declared.rounds.TheConstants.{MOST_CELLS}
use Rattle.leak_round.specs.Announced.{AreAnnounced}
use Rattle.leak_round.specs.Entries.{HasEntries, of_rounds}
use Rattle.leak_round.specs.Limits.{numbers_of}
use Rattle.leak_round.specs.Tables.{kept_in}
use Rattle.leak_round.proofs.Built.{all_announced, all_room, can_stand, few_cells}
use Rattle.leak_round.proofs.Counting.{fewer_entries}
use Rattle.leak_round.proofs.Numbers.{few_numbers, numbers_counted}
use Rattle.leak_round.proofs.rounds.Rounds.build_along.Goals as goal

pub announce_all-requires-clause-room : goal.announce_all-requires-clause-room
announce_all-requires-clause-room g c = omega (arith, few_numbers c.args.plan c.requires.limits, c.new-pool.ensures.live, c.new-pool.ensures.limit)

pub make_rounds-requires-clause-scratch : goal.make_rounds-requires-clause-scratch
make_rounds-requires-clause-scratch g c = subst (λ (x : Course). IsScratch x c.in_ok-scratch.scratch) (sym c.in_ok-way.ensures.course) c.in_ok-scratch.ensures

pub make_rounds-requires-clause-announced : goal.make_rounds-requires-clause-announced
make_rounds-requires-clause-announced g c =
    let plan = c.args.plan in
    let pool = c.announce_all.new.pool in
    subst (AreAnnounced pool plan) (sym c.as_slice.ensures.value) (all_announced pool plan c.in_ok-announced.announced.items c.in_ok-announced.ensures.so_far c.in_ok-announced.ensures.whole c.in_ok-announced.ensures.few)

pub make_rounds-requires-clause-room : goal.make_rounds-requires-clause-room
make_rounds-requires-clause-room g c =
    let plan = c.args.plan in
    let counted = numbers_counted plan in
    let few : live_count c.announce_all.new.pool ≤ numbers_of plan = omega (arith, counted, c.in_ok-announced.ensures.cells, c.new-pool.ensures.live) in
    all_room c.announce_all.new.pool plan c.args.rounds c.requires.limits c.requires.rounds few c.in_ok-announced.ensures.so_far.counts (c.announce_all.ensures.limit ∙ c.new-pool.ensures.limit)

pub closed_rounds-requires : goal.closed_rounds-requires
closed_rounds-requires g c =
    let announced = c.in_ok-announced.ensures in
    can_stand c.announce_all.new.pool c.make_rounds.new.pool c.args.plan c.in_ok-announced.announced.items c.args.rounds c.in_ok-tables.tables.items announced.so_far announced.whole announced.few c.in_ok-tables.ensures.made c.requires.limits c.requires.rounds (c.announce_all.ensures.limit ∙ c.new-pool.ensures.limit)

pub returns-clause-built : goal.returns-clause-built
returns-clause-built g c =
    let r = c.closed_rounds.ensures in
    let plan = c.args.plan in
    let counted = numbers_counted plan in
    let few : live_count c.announce_all.new.pool ≤ numbers_of plan = omega (arith, counted, c.in_ok-announced.ensures.cells, c.new-pool.ensures.live) in
    let w = setting_in g.P.RoutePolicy.meaning g.V.OriginStates.state_of c.args.world.now in
    record {
      closed = r.closed;
      plan = r.plan;
      count = ap (λ (ts : List RoundTables). length ts) r.tables ∙ c.in_ok-tables.ensures.made.count;
      stable = coe 1 0 (i. AreRounds w plan c.args.rounds (kept_in (r.pool i) (r.tables i))) c.in_ok-tables.ensures.stable;
      only = λ other are before prefix less known a.
          coe 1 0 (i. other (suc before) prefix a ≡ kept_in (r.pool i) (r.tables i) (suc before) prefix a)
          (c.one_family.ensures c.args.world.now.graph.now c.args.world.now.book.now (λ (p : PrefixValue). g.V.OriginStates.state_of c.args.world.now.states.now p) plan c.args.rounds other (kept_in c.make_rounds.new.pool c.in_ok-tables.tables.items) c.requires.no_cycle are c.in_ok-tables.ensures.stable before prefix less known a);
      cells = coe 1 0 (i. HasEntries (of_rounds (kept_in (r.pool i) (r.tables i))) (live_count (r.pool i) - numbers_of plan))
          (fewer_entries (of_rounds (kept_in c.make_rounds.new.pool c.in_ok-tables.tables.items)) (live_count c.make_rounds.new.pool - numbers_of plan) (live_count c.make_rounds.new.pool - live_count c.announce_all.new.pool) c.in_ok-tables.ensures.made.cells (omega (arith, few)));
      few = subst (λ (p : PathPool). live_count p ≤ MOST_CELLS) (sym r.pool)
          (few_cells c.announce_all.new.pool c.make_rounds.new.pool plan c.args.rounds c.requires.limits c.requires.rounds few c.in_ok-tables.ensures.made.grows.cells);
    }
