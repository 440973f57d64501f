use Rattle.std.proofs.Common.{◌≡◌, ℕ, ◌<◌, Option, None, length, sym, ap, subst, ◌∙◌, arith}
use Rattle.std.specs.Option.{option_copied}
use Rattle.std.proofs.lemmas.Option.{slice_get_within}
use Rattle.net_names.specs.Prefixes.{PrefixValue}
use Rattle.stability_laws.specs.declared.entry.Entry.{Entry}
use Rattle.stability_laws.specs.Plans.{prefixes_of}
use Rattle.route_choice.specs.RoundTables.{table_at, PutsTable}
use Rattle.leak_round.specs.Tables.{kept_in}
use Rattle.leak_round.proofs.Counting.{none_some}
use Rattle.leak_round.proofs.Keeping.{rounds_full_kept, all_kept, room_left}
use Rattle.leak_round.proofs.Rounding.{round_start, none_yet, round_more, round_made, round_fits}
use Rattle.leak_round.proofs.moving.moved_round.Goals as goal

pub prefixes-init : goal.prefixes-init
prefixes-init c = record {
  so_far = round_start (λ (q : PrefixValue) (f : ℕ → Option Entry). (a : ℕ) → f a ≡ kept_in c.args.moving.now.from.now c.args.moving.now.tables.now c.args.round q a) c.args.moving.now.plan.now c.args.pool.now c.new-tables.result c.new-tables.ensures.none c.new-tables.ensures.uses;
  within = omega arith;
}

pub unreachable-requires : goal.unreachable-requires
unreachable-requires c =
    let p = c.in-Some.prefix in
    let none : table_at c.args.old.now p ≡ None = sym c.table.ensures ∙ ap option_copied c.in_default-table.is in
    none_some (table_at c.args.old.now p) none ((c.args.moving.now.full c.args.round c.args.old.now c.requires.at).there p ∙ c.in-Some.ensures.listed.only c.prefixes.place p (sym c.in-Some.ensures.value))

pub moved_table-requires-clause-earlier : goal.moved_table-requires-clause-earlier
moved_table-requires-clause-earlier c = rounds_full_kept c.args.pool.now c.prefixes.pool c.prefixes.invariant.so_far.keeps c.args.moving.now.plan.now c.args.earlier.now c.requires.earlier

pub moved_table-requires-clause-before : goal.moved_table-requires-clause-before
moved_table-requires-clause-before c = λ a.
    let p = c.in-Some.prefix in
    all_kept c.args.pool.now c.prefixes.pool c.prefixes.invariant.so_far.keeps c.args.moving.now.plan.now c.args.earlier.now c.requires.earlier (length c.args.earlier.now) p a
    ∙ c.requires.before p a (c.in-Some.ensures.listed.only c.prefixes.place p (sym c.in-Some.ensures.value))

pub moved_table-requires-clause-room : goal.moved_table-requires-clause-room
moved_table-requires-clause-room c =
    let within = slice_get_within (prefixes_of c.args.moving.now.plan.now) c.prefixes.place c.in-Some.prefix (sym c.in-Some.ensures.value) in
    room_left c.args.pool.now c.prefixes.pool c.prefixes.place 1 (length (prefixes_of c.args.moving.now.plan.now)) c.prefixes.invariant.so_far.grows c.requires.room (omega (arith, within))

pub push-requires : goal.push-requires
push-requires c =
    ap (table_at c.prefixes.tables) c.in_ok-moved.ensures.made.prefix_is
    ∙ none_yet (λ (q : PrefixValue) (f : ℕ → Option Entry). (a : ℕ) → f a ≡ kept_in c.args.moving.now.from.now c.args.moving.now.tables.now c.args.round q a) c.args.moving.now.plan.now c.args.pool.now
    c.prefixes.pool c.moved_table.new.pool c.prefixes.tables c.prefixes.tables c.prefixes.place c.in-Some.prefix c.in_ok-moved.moved c.prefixes.invariant.so_far c.in-Some.ensures.listed (sym c.in-Some.ensures.value)

pub prefixes-smaller : goal.prefixes-smaller
prefixes-smaller c =
    let within : c.prefixes.place < length (prefixes_of c.args.moving.now.plan.now) = slice_get_within (prefixes_of c.args.moving.now.plan.now) c.prefixes.place c.in-Some.prefix (sym c.in-Some.ensures.value) in
    omega arith

pub prefixes-preserved : goal.prefixes-preserved
prefixes-preserved c =
    let plan = c.args.moving.now.plan.now in
    let p = c.in-Some.prefix in
    let within = slice_get_within (prefixes_of plan) c.prefixes.place p (sym c.in-Some.ensures.value) in
    let made = c.in_ok-moved.ensures.made in
    record {
      so_far = round_more (λ (q : PrefixValue) (f : ℕ → Option Entry). (a : ℕ) → f a ≡ kept_in c.args.moving.now.from.now c.args.moving.now.tables.now c.args.round q a) plan c.args.pool.now
          c.prefixes.pool c.moved_table.new.pool c.prefixes.tables c.push.new.self c.prefixes.place p c.in_ok-moved.moved c.prefixes.invariant.so_far c.in-Some.ensures.listed (sym c.in-Some.ensures.value)
          made.keeps made.grows made.holds made.live c.in_ok-moved.ensures.same made.cells
          (subst (λ q. PutsTable c.prefixes.tables c.push.new.self q c.in_ok-moved.moved) made.prefix_is c.in_ok-push.ensures.ok) c.in_ok-push.ensures.by_prefix made.small;
      within = omega (arith, within);
    }

pub returns-clause-same : goal.returns-clause-same
returns-clause-same c = round_fits (λ (q : PrefixValue) (f : ℕ → Option Entry). (a : ℕ) → f a ≡ kept_in c.args.moving.now.from.now c.args.moving.now.tables.now c.args.round q a) c.args.moving.now.plan.now c.args.pool.now
    c.prefixes.pool c.prefixes.tables c.prefixes.place c.prefixes.invariant.so_far c.prefix_at.ensures.listed (sym c.prefix_at.ensures.value ∙ c.in_default.is)

pub returns-clause-made : goal.returns-clause-made
returns-clause-made c = round_made (λ (q : PrefixValue) (f : ℕ → Option Entry). (a : ℕ) → f a ≡ kept_in c.args.moving.now.from.now c.args.moving.now.tables.now c.args.round q a) c.args.moving.now.plan.now c.args.pool.now
    c.prefixes.pool c.prefixes.tables c.prefixes.place c.prefixes.invariant.so_far c.prefix_at.ensures.listed (sym c.prefix_at.ensures.value ∙ c.in_default.is) c.prefixes.invariant.within
