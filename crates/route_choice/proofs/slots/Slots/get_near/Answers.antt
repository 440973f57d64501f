use Rattle.std.proofs.Common.{Some, ap, sym, ◌∙◌}
use Rattle.route_choice.specs.declared.row.Row.{Row}
use Rattle.route_choice.specs.Rows.{entry_in}
use Rattle.route_choice.specs.Slots.{Slots, slot_at}
use Rattle.route_choice.specs.Beside.{beside_entries}
use Rattle.route_choice.proofs.RowLemmas.{placed, slot_placed, slot_beside, rows_apart}
use Rattle.route_choice.proofs.slots.Slots.get_near.Goals as goal

pub place_among-requires-clause-apart : goal.place_among-requires-clause-apart
place_among-requires-clause-apart c = rows_apart c.self.invariant c.as_slice.ensures.value

pub returns-in-Some : goal.returns-in-Some
returns-in-Some c =
    let at = placed c.args.asn c.as_slice.ensures.value c.place_among.ensures.value c.in-Some.is in
    let there = slot_placed c.self.inside.rows.items (beside_entries c.self.inside.beside) c.args.asn c.in-Some.found c.index.result.now at in
    ap Some (c.entry.ensures ∙ ap (λ (r : Row). entry_in r.slot) c.index.ensures) ∙ sym there ∙ ap (λ (v : Slots). slot_at v c.args.asn) c.self.view_is

pub returns-in-None : goal.returns-in-None
returns-in-None c =
    let at = placed c.args.asn c.as_slice.ensures.value c.place_among.ensures.value c.in-None.is in
    let there = slot_beside c.self.inside.rows.items (beside_entries c.self.inside.beside) c.args.asn at in
    c.get.ensures ∙ sym there ∙ ap (λ (v : Slots). slot_at v c.args.asn) c.self.view_is
