use Rattle.std.proofs.Common.{◌≡◌, ◌<◌, ◌∙◌, ◌∷◌, ◌++◌, ◌+◌, ◌-◌, get_or, take, drop, ap, sym, subst, refl, inl, inr, rules, length, append-nil}
use Rattle.roa_table.specs.Plain.{IsLineEnd, stops_line}
use Rattle.roa_table.proofs.PlainRows.{free_before, free_of, within_text, slice_begins, slice_from, slices_join, begins_by}
use Rattle.roa_table.proofs.plain.end_line.Goals as goal

pub returns-in_default : goal.returns-in_default
returns-in_default c = record {
  part = c.args.text.now;
  free = free_of stops_line c.args.text.now (sym c.in_default.is ∙ c.find_line_stop.ensures.place);
  ends = tt;
  whole = inl (sym (append-nil c.args.text.now));
}

pub returns-then-text-at-eq10 : goal.returns-then-text-at-eq10
returns-then-text-at-eq10 c =
    let text = c.args.text.now in
    let found = c.in-Some.ensures.place in
    let lt = within_text stops_line text c.in-Some.at found in
    let feed : get_or text c.in-Some.at 0 ≡ 10 = search rules in
    record {
      part = take c.in-Some.at text;
      free = free_before stops_line text c.in-Some.at found;
      ends = subst IsLineEnd (sym (slice_begins text c.in-Some.at lt)) feed;
      whole = inl (slices_join text c.in-Some.at);
    }

pub returns : goal.returns
returns c =
    let text = c.args.text.now in
    let found = c.in-Some.ensures.place in
    let lt = within_text stops_line text c.in-Some.at found in
    let rest = take (length text - (c.in-Some.at + 1)) (drop (c.in-Some.at + 1) text) in
    let some : 0 < length rest = search rules in
    record {
      part = take c.in-Some.at text;
      free = free_before stops_line text c.in-Some.at found;
      ends = subst IsLineEnd (sym (begins_by rest 10 some c.if-rest-ne10.false)) refl;
      whole = inr (slices_join text c.in-Some.at
          ∙ ap (λ l. take c.in-Some.at text ++ l) (slice_begins text c.in-Some.at lt ∙ ap (λ b. b ∷ drop (c.in-Some.at + 1) text) c.if-text-at-ne13.false ∙ ap (λ l. 13 ∷ l) (sym (slice_from text (c.in-Some.at + 1)))));
    }
