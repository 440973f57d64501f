use Rattle.std.proofs.Common.{Some, ap, sym, ◌∙◌, arith}
use Rattle.as_places.specs.Places.{PlacedAses}
use Rattle.route_choice.specs.declared.row.Row.{Row}
use Rattle.route_choice.specs.Rows.{entry_in}
use Rattle.route_choice.specs.Slots.{Slots, slot_at}
use Rattle.route_choice.proofs.RowLemmas.{is_inside}
use Rattle.route_choice.proofs.DenseLemmas.{row_found, slot_none, slot_row}
use Rattle.route_choice.proofs.dense.Dense.get.Goals as goal

pub index-requires : goal.index-requires
index-requires c =
    let at = row_found c.self.invariant c.args.asn (ap (λ (p : PlacedAses). p.ases) c.deref.ensures) c.as_slice.ensures.value c.row_near.ensures c.in-Some.is in
    omega (arith, is_inside c.self.inside.rows.items c.args.asn c.in-Some.row at, c.self.inside.rows.ok.0)

pub returns-in-Some : goal.returns-in-Some
returns-in-Some c =
    let at = row_found c.self.invariant c.args.asn (ap (λ (p : PlacedAses). p.ases) c.deref.ensures) c.as_slice.ensures.value c.row_near.ensures c.in-Some.is in
    let there = slot_row c.self.inside.rows.items c.args.asn c.in-Some.row c.index.result.now at in
    ap Some (c.entry.ensures ∙ ap (λ (r : Row). entry_in r.slot) c.index.ensures) ∙ sym there ∙ ap (λ (v : Slots). slot_at v c.args.asn) c.self.view_is

pub returns-in-None : goal.returns-in-None
returns-in-None c =
    let at = row_found c.self.invariant c.args.asn (ap (λ (p : PlacedAses). p.ases) c.deref.ensures) c.as_slice.ensures.value c.row_near.ensures c.in-None.is in
    sym (slot_none c.self.inside.rows.items c.args.asn at) ∙ ap (λ (v : Slots). slot_at v c.args.asn) c.self.view_is
