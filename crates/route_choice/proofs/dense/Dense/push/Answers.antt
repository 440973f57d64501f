use Rattle.std.proofs.Common.{Some, ap, sym, ◌∙◌, arith}
use Rattle.as_places.specs.Places.{PlacedAses}
use Rattle.route_choice.specs.declared.row.Row.{Row}
use Rattle.route_choice.specs.Dense.{row_of}
use Rattle.route_choice.specs.Slots.{Slots, slot_at}
use Rattle.route_choice.proofs.DenseLemmas.{dense_push}
use Rattle.route_choice.proofs.dense.Dense.push.Goals as goal

pub invariant_of-self : goal.invariant_of-self
invariant_of-self c =
    let row : Row = record { asn = c.args.asn; slot = c.of.result } in
    let list = ap (λ (p : PlacedAses). p.ases) (sym c.deref.ensures) in
    let set = c.set_row.ensures in
    let marks = c.set_row.new.marks.items in
    let late = c.set_row.new.late in
    dense_push c.self.invariant row
    (ap (λ (v : Slots). slot_at v c.args.asn) c.self.view_is ∙ c.requires.absent)
    c.in-Ok.ensures.items
    (ap (λ l. row_of l marks late c.args.asn) list ∙ set.this ∙ ap Some (c.len-row.ensures ∙ c.self.inside.rows.ok.0))
    (λ a ne. ap (λ l. row_of l marks late a) list ∙ set.others a ne ∙ ap (λ l. row_of l c.self.inside.marks.items c.self.inside.late a) (sym list))
    set.marks
    (omega (arith, c.in-Ok.ensures.capacity))
    (omega (arith, c.requires.room, ap (λ (v : Slots). v.spare) c.self.view_is))
    set.spare
