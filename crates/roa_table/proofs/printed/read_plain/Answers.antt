use Rattle.std.proofs.Common.{◌≡◌, ◌<◌, ◌≤◌, ◌∙◌, ◌++◌, ◌-◌, ap, sym, arith, take, drop, length}
use Rattle.std.proofs.lemmas.List.{length-take-le}
use Rattle.std.specs.Prelude.{decimal}
use Rattle.roa_table.proofs.PrintedPrefixes.{printed_number}
use Rattle.roa_table.proofs.PlainRows.{slices_join}
use Rattle.roa_table.proofs.printed.read_plain.Goals as goal

pub returns-clause-whole : goal.returns-clause-whole
returns-clause-whole c =
    let text = c.args.text.now in
    let run = c.read_digits-run in
    let len = run.result.len in
    let l = length-take-le len text run.ensures.within in
    let some : 0 < length (take len text) = omega (arith, l, c.if-run-eq0.false) in
    let few : length (take len text) ≤ 3 = omega (arith, l, run.ensures.short) in
    let is : take len text ≡ decimal run.result.value = printed_number (take len text) run.result.value some few run.ensures.digits (sym run.ensures.value) (sym c.leads.ensures ∙ c.if-leads.false) in
    slices_join text len ∙ ap (λ t. t ++ take (length text - len) (drop len text)) is
