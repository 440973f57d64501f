use Rattle.std.proofs.Common.{◌≡◌, ℕ, ◌-◌, Option, Some, None, unwrap_or, List, [], ◌&&◌, nat_lt, length, option_map, refl, sym, ap, subst, ◌∙◌, arith}
use Rattle.std.specs.Prelude.{IsSome}
use Rattle.net_names.specs.Numbers.{occurs}
use Rattle.as_places.specs.Places.{PlacedAses}
use Rattle.stability_laws.specs.declared.entry.Entry.{Entry}
use Rattle.stability_laws.specs.Plans.{announced_path, leaks_in}
use Rattle.stability_laws.specs.Rounds.{seed_given, seeds_of as seeds_in}
use Rattle.route_choice.specs.declared.held.Held.{Held}
use Rattle.route_choice.specs.Resources.{AreSeedsLive}
use Rattle.route_choice.specs.Routings.{entry_of, seeds_of, table_routing}
use Rattle.route_choice.specs.Tables.{change_at, held_at}
use Rattle.leak_round.specs.declared.holders.Holder.{Holder}
use Rattle.leak_round.specs.Growth.{KeepsPaths}
use Rattle.leak_round.specs.Moved.{asns_of, ArePassedOn}
use Rattle.leak_round.specs.Overlays.{AreFew}
use Rattle.leak_round.specs.Tables.{kept_in}
use Rattle.leak_round.proofs.Seeding.{held_of-live, seeds_are, seeds_kept, seeds_live}
use Rattle.leak_round.proofs.MovedTables.{few_hold, have_places, holders_counted, kept_at, live_at, routed, seeds_still}
use Rattle.leak_round.proofs.moving.moved_table.Goals as goal

pub holders_by_length-requires-clause-live : goal.holders_by_length-requires-clause-live
holders_by_length-requires-clause-live c = live_at c.args.moving.now.from.now c.args.moving.now.tables.now c.args.round c.args.prefix c.args.table.now c.requires.at c.args.moving.now.plan.now c.args.moving.now.full

pub holders_by_length-requires-clause-among : goal.holders_by_length-requires-clause-among
holders_by_length-requires-clause-among c = λ a h.
    let kept = kept_at c.args.moving.now.from.now c.args.moving.now.tables.now c.args.round c.args.prefix c.args.table.now c.requires.at in
    ap (occurs a) (c.as_slice.ensures.list ∙ ap (λ (p : PlacedAses). p.ases) c.deref.ensures) ∙ c.args.moving.now.among c.args.round c.args.prefix a (subst IsSome (sym (kept a)) h)

few_table : (f g : ℕ → Option Entry) → ((a : ℕ) → f a ≡ g a) → AreFew f → AreFew g
few_table f g same few = coe 0 1 (i. AreFew (λ a. same a i)) few

pub reserve_numbers-requires : goal.reserve_numbers-requires
reserve_numbers-requires c =
    let f = table_routing c.args.moving.now.from.now c.args.table.now in
    let kept = kept_at c.args.moving.now.from.now c.args.moving.now.tables.now c.args.round c.args.prefix c.args.table.now c.requires.at in
    let few = few_hold f c.in_ok-holders.holders.items c.in_ok-holders.ensures.holders (few_table _ f kept (c.args.moving.now.few c.args.round c.args.prefix)) in
    omega (arith, few, c.len.ensures, c.requires.room.cells)

pub move_entries-requires-clause-live : goal.move_entries-requires-clause-live
move_entries-requires-clause-live c = live_at c.args.moving.now.from.now c.args.moving.now.tables.now c.args.round c.args.prefix c.args.table.now c.requires.at c.args.moving.now.plan.now c.args.moving.now.full

pub move_entries-requires-clause-seeds : goal.move_entries-requires-clause-seeds
move_entries-requires-clause-seeds c = λ a s e.
    let live : AreSeedsLive c.args.pool.now c.in_ok-seeds.seeds = seeds_live c.args.pool.now c.args.moving.now.plan.now c.args.moving.now.announced.now c.args.earlier.now [] c.args.round c.args.prefix c.in_ok-seeds.seeds c.in_ok-seeds.ensures c.requires.announced
    (λ b h is. held_of-live c.args.pool.now c.args.moving.now.plan.now c.args.earlier.now c.requires.earlier (c.args.round - 1) c.args.prefix b h is) in
    c.reserve_numbers.ensures.kept.stays_live s.path.0 (live a s e)

pub move_entries-requires-clause-passed_on : goal.move_entries-requires-clause-passed_on
move_entries-requires-clause-passed_on c =
    let pool = c.args.pool.now in
    let plan = c.args.moving.now.plan.now in
    let earlier = c.args.earlier.now in
    let from = c.args.moving.now.from.now in
    let tables = c.args.moving.now.tables.now in
    let prefix = c.args.prefix in
    let seeds = c.in_ok-seeds.seeds in
    let kept = kept_at from tables c.args.round prefix c.args.table.now c.requires.at in
    let live : AreSeedsLive pool seeds = seeds_live pool plan c.args.moving.now.announced.now earlier [] c.args.round prefix seeds c.in_ok-seeds.ensures c.requires.announced
    (λ b h is. held_of-live pool plan earlier c.requires.earlier (c.args.round - 1) prefix b h is) in
    let keeps : KeepsPaths pool c.reserve_numbers.new.pool = record { live = c.reserve_numbers.ensures.kept.stays_live; lists = c.reserve_numbers.ensures.kept.lists } in
    let same : (a : ℕ) → seeds_of c.reserve_numbers.new.pool seeds a ≡ seeds_in plan c.args.round prefix (kept_in from tables (length earlier) prefix) a = λ a.
    seeds_still pool c.reserve_numbers.new.pool seeds live keeps a
    ∙ seeds_are pool plan c.args.moving.now.announced.now earlier [] c.args.round prefix seeds c.in_ok-seeds.ensures c.requires.announced (λ b. refl) c.requires.known a
    ∙ seeds_kept pool plan earlier c.args.round prefix c.requires.round a
    ∙ ap (seed_given (announced_path plan prefix a) (nat_lt 1 c.args.round && leaks_in plan c.args.round a)) (c.requires.before a) in
    coe 1 0 (i. ArePassedOn (λ a. same a i) (λ a. sym (kept a) i)) c.requires.passed_on

pub move_entries-requires-clause-places : goal.move_entries-requires-clause-places
move_entries-requires-clause-places c =
    let f = table_routing c.args.moving.now.from.now c.args.table.now in
    let kept = kept_at c.args.moving.now.from.now c.args.moving.now.tables.now c.args.round c.args.prefix c.args.table.now c.requires.at in
    λ a o. have_places f c.in_ok-holders.holders.items c.in_ok-holders.ensures.holders c.in_ok-made.made c.args.moving.now.ases.now.value.ases c.in_ok-made.ensures.changes
    (λ b h. c.args.moving.now.among c.args.round c.args.prefix b (subst IsSome (sym (kept b)) h)) a (ap (λ xs. occurs a (asns_of xs)) (sym c.as_slice-2.ensures.value) ∙ o)

pub move_entries-requires-clause-counts : goal.move_entries-requires-clause-counts
move_entries-requires-clause-counts c = λ k.
    let f = table_routing c.args.moving.now.from.now c.args.table.now in
    let kept = kept_at c.args.moving.now.from.now c.args.moving.now.tables.now c.args.round c.args.prefix c.args.table.now c.requires.at in
    let few = few_hold f c.in_ok-holders.holders.items c.in_ok-holders.ensures.holders (few_table _ f kept (c.args.moving.now.few c.args.round c.args.prefix)) in
    let same : length c.as_slice-2.result.now ≡ length c.in_ok-holders.holders.items = ap (λ (xs : List Holder). length xs) c.as_slice-2.ensures.value in
    omega (arith, few, same, c.reserve_numbers.ensures.kept.counts k, c.requires.room.counts k)

pub returns-clause-same : goal.returns-clause-same
returns-clause-same c = λ a.
    let kept = kept_at c.args.moving.now.from.now c.args.moving.now.tables.now c.args.round c.args.prefix c.args.table.now c.requires.at in
    ap (option_map (entry_of c.move_entries.new.pool)) (c.from_changes-table.ensures.entries a) ∙ c.move_entries.ensures.same a ∙ sym (kept a)

-- what is put in is what is held
placed : (o : Option (Option Held)) (h : Held) → unwrap_or o None ≡ Some h → o ≡ Some (Some h)
placed None h e = cc
placed (Some x) h e = ap (λ (y : Option Held). Some y) e

pub returns-clause-made : goal.returns-clause-made
returns-clause-made c =
    let f = table_routing c.args.moving.now.from.now c.args.table.now in
    let new = c.move_entries.new.pool in
    let t = c.from_changes-table.result in
    let kept = kept_at c.args.moving.now.from.now c.args.moving.now.tables.now c.args.round c.args.prefix c.args.table.now c.requires.at in
    let holders = c.in_ok-holders.holders.items in
    let few = few_hold f holders c.in_ok-holders.ensures.holders (few_table _ f kept (c.args.moving.now.few c.args.round c.args.prefix)) in
    let same : length c.as_slice-2.result.now ≡ length holders = ap (λ (xs : List Holder). length xs) c.as_slice-2.ensures.value in
    let held = λ (a : ℕ). ap (option_map (entry_of new)) (c.from_changes-table.ensures.entries a) ∙ c.move_entries.ensures.same a in
    let grows = c.move_entries.ensures.grows in
    let reserved = c.reserve_numbers.ensures.kept in
    record {
      prefix_is = c.from_changes-table.ensures.prefix;
      live = λ a h e. c.move_entries.ensures.live a h (placed (change_at c.move_entries.new.made a) h (sym (c.from_changes-table.ensures.entries a) ∙ e));
      holds = λ k. omega (arith, c.move_entries.ensures.holds k, c.from_changes-table.ensures.uses k, reserved.holds k);
      cells = holders_counted f holders c.in_ok-holders.ensures.holders (table_routing new t) held _ (omega (arith, grows.cells, reserved.live, same));
      keeps = record {
        live = λ k l. c.move_entries.ensures.keeps.live k (reserved.stays_live k l);
        lists = λ k l. c.move_entries.ensures.keeps.lists k (reserved.stays_live k l) ∙ reserved.lists k l;
      };
      grows = record {
        cells = omega (arith, grows.cells, reserved.live, same, few);
        counts = λ k. omega (arith, grows.counts k, reserved.counts k, same, few);
        limit = grows.limit ∙ c.reserve_numbers.ensures.limit;
      };
      small = λ k.
          (let u = c.uses_are_counted.ensures k in
          let n = few_table _ f kept (c.args.moving.now.few c.args.round c.args.prefix) u.ases u.distinct (λ a o. subst IsSome (held a) (routed new (held_at t a) (u.entries a o))) in
          omega (arith, n, u.enough));
    }
