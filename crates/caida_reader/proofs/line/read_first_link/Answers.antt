use Rattle.std.proofs.Common.{sym, ◌∙◌, ap}
use Rattle.net_names.specs.Texts.{fields}
use Rattle.caida_reader.proofs.Cutting.{first_line}
use Rattle.caida_reader.proofs.DigitLemmas.{begins, begins_plain, linked}
use Rattle.caida_reader.proofs.line.read_first_link.Goals as goal

pub returns-clause-line : goal.returns-clause-line
returns-clause-line c =
    let parts = first_line c.in_ok-second.two.now c.in_ok-end.end.now c.in_ok-end.rest.now (sym c.in_ok-end.ensures) in
    let third = c.first_field.ensures in
    begins c.args.text.now c.in_ok-first.one.now c.in_ok-second.two.now c.in_ok-end.end.now c.in_ok-end.rest.now c.in_ok-first.first c.in_ok-second.second
    c.in_ok-first.ensures c.in_ok-second.ensures parts.1 parts.0 c.first_field.result.now third.0 c.make_said-2.result
    (ap (fields 124) (sym c.strip_cr.ensures) ∙ third.1)
    (c.make_said-2.ensures.value ∙ ap (linked c.in_ok-first.first c.in_ok-second.second) c.read_rel-rel.ensures)

pub returns-in-Some-behind_fields-clause-line : goal.returns-in-Some-behind_fields-clause-line
returns-in-Some-behind_fields-clause-line c =
    begins_plain c.args.text.now c.in_ok-first.one.now c.in_ok-second.two.now c.in-Some.end.now c.in-Some-behind_fields.rest.now c.in_ok-first.first c.in_ok-second.second
    c.in-Some.rel c.make_said.result c.in_ok-first.ensures c.in_ok-second.ensures c.in-Some-behind_fields.ensures c.make_said.ensures.value c.in-Some.ensures
