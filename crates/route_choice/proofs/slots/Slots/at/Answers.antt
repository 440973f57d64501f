use Rattle.std.proofs.Common.{◌-◌, ◌<◌, ◌≤◌, length, get_or, Some, nat_eq, subst, slice_get, ap, sym, ◌∙◌, arith}
use Rattle.std.specs.List.{IsDistinct}
use Rattle.std.proofs.lemmas.Bool.{ltb-false}
use Rattle.route_choice.specs.Rows.{entry_in}
use Rattle.route_choice.specs.declared.row.Row.{Row}
use Rattle.route_choice.specs.Slots.{Slots, keys}
use Rattle.route_choice.specs.Beside.{beside_entries}
use Rattle.route_choice.proofs.RowLemmas.{pair_placed, pair_beside, read_slot, slot_read, whole_apart}
use Rattle.route_choice.proofs.slots.Slots.at.Goals as goal

pub returns-in-Some-clause-entry : goal.returns-in-Some-clause-entry
returns-in-Some-clause-entry c =
    let h = c.in-Some.ensures.lookup.3 in
    let less : c.args.place < length c.self.inside.rows.items = omega (arith, h.0, ap length c.deref.ensures.value) in
    let row = h.1 c.in-Some.row.now ∙ ap (λ l. get_or l c.args.place c.in-Some.row.now) c.deref.ensures.value in
    let there = pair_placed c.self.inside.rows.items (beside_entries c.self.inside.beside) c.args.place c.in-Some.row.now less in
    ap (λ e. Some (c.in-Some.row.now.asn, e)) c.entry.ensures
    ∙ ap (λ (r : Row). Some (r.asn, entry_in r.slot)) row
    ∙ sym there
    ∙ ap (λ (v : Slots). slice_get v.entries c.args.place) c.self.view_is

pub returns-in-Some-clause-value : goal.returns-in-Some-clause-value
returns-in-Some-clause-value c =
    let apart = subst (λ (v : Slots). IsDistinct nat_eq (keys v)) c.self.view_is (whole_apart c.self.invariant) in
    slot_read c.args.self.now.entries c.args.place _ _ apart (sym (returns-in-Some-clause-entry c))

pub returns-in-None-clause-entry : goal.returns-in-None-clause-entry
returns-in-None-clause-entry c =
    let past : length c.self.inside.rows.items ≤ c.args.place = omega (arith, ltb-false _ _ (sym c.in-None.ensures.lookup.0), ap length c.deref.ensures.value) in
    let there = pair_beside c.self.inside.rows.items (beside_entries c.self.inside.beside) c.args.place past in
    c.at.ensures
    ∙ ap (λ n. slice_get (beside_entries c.self.inside.beside) (c.args.place - n)) (c.len.ensures ∙ c.self.inside.rows.ok.0)
    ∙ sym there
    ∙ ap (λ (v : Slots). slice_get v.entries c.args.place) c.self.view_is

pub returns-in-None-clause-value : goal.returns-in-None-clause-value
returns-in-None-clause-value c =
    let apart = subst (λ (v : Slots). IsDistinct nat_eq (keys v)) c.self.view_is (whole_apart c.self.invariant) in
    read_slot c.args.self.now.entries c.args.place c.at.result apart (sym (returns-in-None-clause-entry c))
