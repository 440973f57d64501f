use Rattle.std.proofs.Common.{ℕ, List, Option, None, Some, if◌then◌else◌, unwrap_or, inl, inr, ap, sym, ◌∙◌, nat_eq, arith}
use Rattle.std.specs.Map.{lookup}
use Rattle.std.proofs.lemmas.Bool.{cases_Bool}
use Rattle.net_names.specs.Numbers.{occurs}
use Rattle.as_places.specs.Places.{PlacedAses}
use Rattle.route_choice.specs.declared.held.Held.{Held}
use Rattle.route_choice.specs.Slots.{entry_at, entries_at, uses_in}
use Rattle.route_choice.specs.Tables.{ases_of}
use Rattle.route_choice.proofs.Filling.{asns_listed, entry_listed, unused_by_all}
use Rattle.route_choice.proofs.table.Table.filled.Goals as goal

pub placed-slots-requires : goal.placed-slots-requires
placed-slots-requires c =
    let list = c.as_slice.ensures.list ∙ ap (λ (p : PlacedAses). p.ases) c.deref.ensures in
    asns_listed c.args.from.now.changes c.as_slice.result.now c.take_rows-rows.result.items c.take_rows-rows.ensures.entries ∙ list

pub returns-clause-entries : goal.returns-clause-entries
returns-clause-entries c = λ a.
    let list = c.as_slice.ensures.list ∙ ap (λ (p : PlacedAses). p.ases) c.deref.ensures in
    let pairs = c.placed-slots.ensures ∙ c.take_rows-rows.ensures.entries ∙ ap (entries_at c.args.from.now.changes) list in
    let there = ap (λ (es : List (ℕ × Option Held)). unwrap_or (lookup (nat_eq a) es) None) pairs ∙ ap (λ o. unwrap_or o None) (entry_listed c.args.from.now.changes (ases_of c.args.room) a) in
    elim (cases_Bool (occurs a (ases_of c.args.room))) [
      | inl among ↦ there ∙ ap (λ b. unwrap_or (if b then Some (entry_at c.args.from.now.changes a) else None) None) among
      | inr away ↦ there ∙ ap (λ b. unwrap_or (if b then Some (entry_at c.args.from.now.changes a) else None) None) away ∙ sym (c.requires a away)
    ]

pub returns-clause-none : goal.returns-clause-none
returns-clause-none c = λ a.
    let list = c.as_slice.ensures.list ∙ ap (λ (p : PlacedAses). p.ases) c.deref.ensures in
    let taken = c.take_rows-rows.ensures in
    elim (cases_Bool (occurs a c.as_slice.result.now)) [
      | inl among ↦ taken.none a among
      | inr away ↦ ap (λ (o : Option (Option Held)). unwrap_or o None) (taken.others a away) ∙ c.requires a (ap (occurs a) (sym list) ∙ away)
    ]

pub returns-clause-nothing_left : goal.returns-clause-nothing_left
returns-clause-nothing_left c = unused_by_all c.take_rows-rows.new.from.entries c.len-count.ensures.apart (returns-clause-none c)

pub returns-clause-uses : goal.returns-clause-uses
returns-clause-uses c = λ k. omega (arith, ap (λ (es : List (ℕ × Option Held)). uses_in es k) c.placed-slots.ensures, c.take_rows-rows.ensures.uses k, returns-clause-nothing_left c k)
