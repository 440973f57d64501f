use Rattle.std.proofs.Common.{◌≡◌, ℕ, ◌-◌, ◌≤◌, List, length, sym, ap, subst, ◌∙◌, arith}
use Rattle.std.specs.Prelude.{IsSome}
use Rattle.net_names.specs.Numbers.{occurs}
use Rattle.net_names.specs.Prefixes.{PrefixValue}
use Rattle.path_pool.specs.declared.pool.PathPool.{PathPool}
use Rattle.path_pool.specs.Pool.{live_count}
use Rattle.stability_laws.specs.Plans.{prefixes_of}
use Rattle.stability_laws.specs.Rounds.{AreRounds}
use Rattle.route_choice.specs.declared.round_tables.RoundTables.{RoundTables}
use Rattle.leak_round.specs.declared.rounds.TheConstants.{MOST_CELLS}
use Rattle.leak_round.specs.Entries.{HasEntries, of_rounds}
use Rattle.leak_round.specs.Limits.{IsWithinLimits, numbers_of}
use Rattle.leak_round.specs.Overlays.{AreFew}
use Rattle.leak_round.specs.Tables.{kept_in, AreRoundsFull}
use Rattle.leak_round.proofs.Built.{all_room, can_stand, few_cells}
use Rattle.leak_round.proofs.Counting.{fewer_entries}
use Rattle.leak_round.proofs.Numbers.{few_numbers, numbers_counted}
use Rattle.leak_round.proofs.PassedOn.{passed_on}
use Rattle.leak_round.proofs.Tidying.{few_anywhere, kept_anew, kept_there}
use Rattle.leak_round.proofs.rounds.Rounds.tidy.Goals as goal

pub announce_all-requires-clause-room : goal.announce_all-requires-clause-room
announce_all-requires-clause-room c = omega (arith, few_numbers c.in_ok-plan.plan (subst IsWithinLimits (sym c.in_ok-plan.ensures) c.args.self.now.limits), c.new-pool.ensures.live, c.new-pool.ensures.limit)

pub invariant_of-moving : goal.invariant_of-moving
invariant_of-moving c =
    let old = c.args.self.now in
    let is : c.as_slice-2.result.now ≡ old.tables.items = c.as_slice-2.ensures.value in
    let same : length c.as_slice-2.result.now ≡ length old.tables.items = ap (λ (ts : List RoundTables). length ts) is in
    record {
      full = coe 1 0 (i. AreRoundsFull old.pool (c.in_ok-plan.ensures i) (is i)) old.full;
      among = λ round prefix a h.
          (let held = subst (λ ts. IsSome (kept_in old.pool ts round prefix a)) is h in
          let (before, number, less, known) = kept_there old.plan old.pool old.tables.items old.full round prefix a held in
          ap (occurs a) c.in_ok-places.ensures ∙ c.requires.among before prefix a less known (subst (λ n. IsSome (kept_in old.pool old.tables.items n prefix a)) number held));
      few = λ round prefix. subst (λ ts. AreFew (kept_in old.pool ts round prefix)) (sym is) (few_anywhere old.plan old.pool old.tables.items old.full c.requires.few round prefix);
      rounds = omega (arith, same, old.few);
      prefixes = subst (λ p. length (prefixes_of p) ≤ 32) (sym c.in_ok-plan.ensures) old.limits.prefixes;
    }

pub moved_rounds-requires-clause-passed_on : goal.moved_rounds-requires-clause-passed_on
moved_rounds-requires-clause-passed_on c =
    let old = c.args.self.now in
    let is : c.as_slice-2.result.now ≡ old.tables.items = c.as_slice-2.ensures.value in
    let (world, are) = c.requires.stable in
    passed_on world c.in_ok-plan.plan c.plans_are_sound.ensures (length c.as_slice-2.result.now) (kept_in old.pool c.as_slice-2.result.now) (coe 1 0 (i. AreRounds world (c.in_ok-plan.ensures i) (length (is i)) (kept_in old.pool (is i))) are)

pub moved_rounds-requires-clause-room : goal.moved_rounds-requires-clause-room
moved_rounds-requires-clause-room c =
    let old = c.args.self.now in
    let plan = c.in_ok-plan.plan in
    let same : length c.as_slice-2.result.now ≡ length old.tables.items = ap (λ (ts : List RoundTables). length ts) c.as_slice-2.ensures.value in
    let counted = numbers_counted plan in
    let few : live_count c.announce_all.new.pool ≤ numbers_of plan = omega (arith, counted, c.in_ok-announced.ensures.cells, c.new-pool.ensures.live) in
    all_room c.announce_all.new.pool plan (length c.as_slice-2.result.now) (subst IsWithinLimits (sym c.in_ok-plan.ensures) old.limits) (omega (arith, same, old.few)) few c.in_ok-announced.ensures.so_far.counts (c.announce_all.ensures.limit ∙ c.new-pool.ensures.limit)

pub closed_rounds-made-requires : goal.closed_rounds-made-requires
closed_rounds-made-requires c =
    let old = c.args.self.now in
    let announced = c.in_ok-announced.ensures in
    let same : length c.as_slice-2.result.now ≡ length old.tables.items = ap (λ (ts : List RoundTables). length ts) c.as_slice-2.ensures.value in
    can_stand c.announce_all.new.pool c.moved_rounds.new.pool c.in_ok-plan.plan c.in_ok-announced.announced.items (length c.as_slice-2.result.now) c.in_ok-tables.tables.items announced.so_far announced.whole announced.few c.in_ok-tables.ensures.made
    (subst IsWithinLimits (sym c.in_ok-plan.ensures) old.limits) (omega (arith, same, old.few)) (c.announce_all.ensures.limit ∙ c.new-pool.ensures.limit)

pub returns-clause-plan : goal.returns-clause-plan
returns-clause-plan c = c.closed_rounds-made.ensures.plan ∙ c.in_ok-plan.ensures

pub returns-clause-count : goal.returns-clause-count
returns-clause-count c =
    let number = λ (ts : List RoundTables). length ts in
    ap number c.closed_rounds-made.ensures.tables ∙ c.in_ok-tables.ensures.made.count ∙ ap number c.as_slice-2.ensures.value

pub returns-clause-kept : goal.returns-clause-kept
returns-clause-kept c =
    let old = c.args.self.now in
    let plan = c.in_ok-plan.plan in
    let r = c.closed_rounds-made.ensures in
    let Kept : PathPool → List RoundTables → Type 0 = λ p ts. (round : ℕ) (prefix : PrefixValue) (a : ℕ) → kept_in p ts round prefix a ≡ kept_in old.pool old.tables.items round prefix a in
    coe 1 0 (i. Kept (r.pool i) (r.tables i))
    (kept_anew plan old.pool c.moved_rounds.new.pool old.tables.items c.in_ok-tables.tables.items (subst (λ p. AreRoundsFull old.pool p old.tables.items) (sym c.in_ok-plan.ensures) old.full) c.in_ok-tables.ensures.made.full
    c.as_slice-2.result.now c.as_slice-2.ensures.value c.in_ok-tables.ensures.made.count c.in_ok-tables.ensures.same)

pub returns-clause-cells : goal.returns-clause-cells
returns-clause-cells c =
    let r = c.closed_rounds-made.ensures in
    let plan = c.in_ok-plan.plan in
    let counted = numbers_counted plan in
    let few : live_count c.announce_all.new.pool ≤ numbers_of plan = omega (arith, counted, c.in_ok-announced.ensures.cells, c.new-pool.ensures.live) in
    coe 1 0 (i. HasEntries (of_rounds (kept_in (r.pool i) (r.tables i))) (live_count (r.pool i) - numbers_of (r.plan i)))
    (fewer_entries (of_rounds (kept_in c.moved_rounds.new.pool c.in_ok-tables.tables.items)) (live_count c.moved_rounds.new.pool - numbers_of plan) (live_count c.moved_rounds.new.pool - live_count c.announce_all.new.pool) c.in_ok-tables.ensures.made.cells (omega (arith, few)))

pub returns-clause-few : goal.returns-clause-few
returns-clause-few c =
    let old = c.args.self.now in
    let plan = c.in_ok-plan.plan in
    let same : length c.as_slice-2.result.now ≡ length old.tables.items = ap (λ (ts : List RoundTables). length ts) c.as_slice-2.ensures.value in
    let counted = numbers_counted plan in
    let few : live_count c.announce_all.new.pool ≤ numbers_of plan = omega (arith, counted, c.in_ok-announced.ensures.cells, c.new-pool.ensures.live) in
    subst (λ (p : PathPool). live_count p ≤ MOST_CELLS) (sym c.closed_rounds-made.ensures.pool)
    (few_cells c.announce_all.new.pool c.moved_rounds.new.pool plan (length c.as_slice-2.result.now) (subst IsWithinLimits (sym c.in_ok-plan.ensures) old.limits) (omega (arith, same, old.few)) few c.in_ok-tables.ensures.made.grows.cells)
