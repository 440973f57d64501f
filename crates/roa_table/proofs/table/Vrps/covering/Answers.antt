use Rattle.std.proofs.Common.{◌≡◌, ap, sym, subst, ◌∙◌, rules, suc}
use Rattle.std.specs.List.Sorted.{IsStrictlySortedBy}
use Rattle.roa_table.specs.Cover.{cover_cmp, covering, rows_below}
use Rattle.roa_table.proofs.table.Vrps.covering.Goals as goal

value : (c : goal.After-of) → c.of.result ≡ covering c.args.self.now c.args.prefix
value c =
    let e : c.loop-len.len ≡ suc c.args.prefix.len = search rules in
    c.of.ensures ∙ c.loop-len.invariant ∙ ap (rows_below c.args.self.now c.args.prefix) e ∙ c.rows_cover.ensures.rows

pub returns-clause-value : goal.returns-clause-value
returns-clause-value c = value c

pub returns-clause-order : goal.returns-clause-order
returns-clause-order c = subst (IsStrictlySortedBy cover_cmp) (sym (value c)) c.rows_cover.ensures.order
