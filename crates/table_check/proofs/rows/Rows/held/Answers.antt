use Rattle.std.proofs.Common.{Option, sym, ap, ◌∙◌}
use Rattle.std.specs.Prelude.{option_and_then}
use Rattle.stability_laws.specs.declared.entry.Entry.{Entry}
use Rattle.table_check.specs.Rows.{held_by}
use Rattle.table_check.proofs.RowMaps.{get_row}
use Rattle.table_check.proofs.rows.Rows.held.Goals as goal

pub returns-in-Some-Some : goal.returns-in-Some-Some
returns-in-Some-Some c =
    let es = c.self.inside.entries.entries in
    let F : Option (Option Entry) → Option Entry = λ o. option_and_then (λ h. h) o in
    ap F (rw c.in-Some-Some.field-0-is at c.in-Some-Some.ensures.value) ∙ ap F (sym (get_row es (c.args.round, c.args.asn))) ∙ ap (λ rows. held_by rows c.args.round c.args.asn) c.self.view_is

pub returns-in-Some-None : goal.returns-in-Some-None
returns-in-Some-None c =
    let es = c.self.inside.entries.entries in
    let F : Option (Option Entry) → Option Entry = λ o. option_and_then (λ h. h) o in
    ap F (rw c.in-Some-None.field-0-is at c.in-Some-None.ensures.value) ∙ ap F (sym (get_row es (c.args.round, c.args.asn))) ∙ ap (λ rows. held_by rows c.args.round c.args.asn) c.self.view_is

pub returns-in-None : goal.returns-in-None
returns-in-None c =
    let es = c.self.inside.entries.entries in
    let F : Option (Option Entry) → Option Entry = λ o. option_and_then (λ h. h) o in
    ap F c.in-None.ensures.value ∙ ap F (sym (get_row es (c.args.round, c.args.asn))) ∙ ap (λ rows. held_by rows c.args.round c.args.asn) c.self.view_is
