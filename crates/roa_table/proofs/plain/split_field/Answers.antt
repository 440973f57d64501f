use Rattle.std.proofs.Common.{◌≡◌, true, get_or, drop, ◌+◌, ◌∙◌, subst, sym, append-nil}
use Rattle.roa_table.specs.Plain.{stops_field}
use Rattle.roa_table.proofs.PlainRows.{free_before, free_of, head_is, within_text, stops_at, slice_begins, slices_join}
use Rattle.roa_table.proofs.plain.split_field.Goals as goal

pub returns-in-Some : goal.returns-in-Some
returns-in-Some c =
    let text = c.args.text.now in
    let at = c.in-Some.at in
    let found = c.in-Some.ensures.place in
    let lt = within_text stops_field text at found in
    record {
      free = free_before stops_field text at found;
      whole = slices_join text at;
      stops = λ stop behind is. subst (λ x. stops_field x ≡ true) (head_is (get_or text at 0) stop (drop (at + 1) text) behind (sym (slice_begins text at lt) ∙ is)) (stops_at stops_field text at found);
    }

pub returns-in-None : goal.returns-in-None
returns-in-None c = record {
  free = free_of stops_field c.args.text.now c.in-None.ensures.place;
  whole = sym (append-nil c.args.text.now);
  stops = λ stop behind is. cc is;
}
