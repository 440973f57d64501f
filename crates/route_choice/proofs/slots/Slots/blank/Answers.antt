use Rattle.std.proofs.Common.{nat_eq, ap, sym, subst, ◌∙◌}
use Rattle.std.specs.List.{IsDistinct}
use Rattle.as_places.specs.Places.{PlacedAses}
use Rattle.route_choice.specs.Rows.{empty_rows}
use Rattle.route_choice.proofs.RowLemmas.{blank_kept, blank_rows}
use Rattle.route_choice.proofs.slots.Slots.blank.Goals as goal

pub invariant_of-result : goal.invariant_of-result
invariant_of-result c =
    let same = c.deref.ensures ∙ sym c.in_ok-shared.ensures.cases in
    let list = c.as_slice.ensures.list ∙ ap (λ (p : PlacedAses). p.ases) same in
    let apart = subst (λ (p : PlacedAses). IsDistinct nat_eq p.ases) same c.as_slice.ensures.apart in
    blank_kept c.in_ok-shared.shared.value.ases (c.in_ok-rows.ensures ∙ ap (λ l. empty_rows l) list) c.in_ok-beside.ensures.none apart

pub returns : goal.returns
returns c =
    let list = c.as_slice.ensures.list ∙ ap (λ (p : PlacedAses). p.ases) c.deref.ensures in
    blank_rows c.args.ases.now.value.ases (c.in_ok-rows.ensures ∙ ap (λ l. empty_rows l) list) c.in_ok-beside.ensures.none c.in_ok-beside.ensures.room
