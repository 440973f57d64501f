use Rattle.std.proofs.Common.{ℕ, sym, ap, ◌∙◌, subst}
use Rattle.std.specs.Prelude.{not, is_some}
use Rattle.table_check.specs.Rows.{HasShortRows}
use Rattle.table_check.proofs.RowMaps.{get_row, held_short, none_stands, one_put, rows_with, short_insert}
use Rattle.table_check.proofs.rows.Rows.put.Goals as goal

pub returns-clause-new : goal.returns-clause-new
returns-clause-new c =
    let key : ℕ × ℕ = (c.args.round, c.args.asn) in
    let stood = c.in_ok-old.ensures.old ∙ sym (get_row c.self.inside.entries.entries key) in
    rw (← c.self.view_is) (none_stands c.in_ok-old.old c.is_none.result c.is_none.ensures ∙ ap (λ o. not (is_some o)) stood)

pub returns-clause-with : goal.returns-clause-with
returns-clause-with c = rw (← c.self.view_is) (one_put c.self.inside.entries.entries c.insert.new.self.entries (c.args.round, c.args.asn) c.args.held c.in_ok-old.ensures.updates.0)

pub invariant_of-self-2 : goal.invariant_of-self-2
invariant_of-self-2 c =
    let key : ℕ × ℕ = (c.args.round, c.args.asn) in
    subst HasShortRows (sym (one_put c.self.inside.entries.entries c.insert.new.self.entries key c.args.held c.in_ok-old.ensures.updates.0))
    (short_insert (rows_with c.self.inside.entries.entries) key c.args.held c.self.invariant (held_short c.args.held c.requires))
