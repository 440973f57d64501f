use Rattle.std.proofs.Common.{Some, ◌++◌, nat_eq, ap, sym, ◌∙◌}
use Rattle.std.specs.Map.{lookup}
use Rattle.std.proofs.lemmas.Bool.{eqb-true}
use Rattle.as_places.specs.Places.{place_of}
use Rattle.route_choice.specs.declared.row.Row.{Row}
use Rattle.route_choice.specs.Rows.{asns_of, entries_of, entry_in}
use Rattle.route_choice.specs.Slots.{Slots, slot_at}
use Rattle.route_choice.specs.Beside.{beside_entries}
use Rattle.route_choice.proofs.RowLemmas.{row_place, slot_placed, rows_apart}
use Rattle.route_choice.proofs.slots.Slots.row_near.Goals as goal

pub returns-in-Some : goal.returns-in-Some
returns-in-Some c =
    let rows = c.deref.result.now in
    let h = c.in-Some.ensures.lookup.3 in
    let d = c.in-Some.row.now in
    let same = sym (ap (λ (r : Row). r.asn) (h.1 d)) ∙ eqb-true _ _ (sym c.eq.ensures ∙ c.if-eq.true) in
    let at = ap (place_of (asns_of rows)) (sym same) ∙ row_place rows c.args.place d (rows_apart c.self.invariant c.deref.ensures.value) h.0 in
    sym (ap (λ (v : Slots). slot_at v c.args.asn) c.self.view_is)
    ∙ ap (λ l. lookup (nat_eq c.args.asn) (entries_of l ++ beside_entries c.self.inside.beside)) (sym c.deref.ensures.value)
    ∙ slot_placed rows (beside_entries c.self.inside.beside) c.args.asn c.args.place d at
    ∙ ap (λ (r : Row). Some (entry_in r.slot)) (sym (h.1 d))
