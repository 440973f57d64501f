use Rattle.std.proofs.Common.{ap, sym, subst, ◌∙◌}
use Rattle.net_names.specs.Lines.{kept_from, said_on}
use Rattle.scenario_text.proofs.FileLines.{no_lines, named, unnamed}
use Rattle.table_check.specs.Reading.{Gives, with_line}
use Rattle.table_check.specs.declared.reading.TablesError.TheVariants.{NoFor, Unreadable}
use Rattle.table_check.proofs.Lines.{none_yet, tables_are}
use Rattle.table_check.proofs.reading.read_tables.Goals as goal

pub returns-in_default : goal.returns-in_default
returns-in_default c =
    let lines = kept_from 1 c.args.bytes.now in
    tables_are lines ∙ no_lines NoFor Unreadable (λ _ x _. said_on with_line (none_yet x.1) lines) lines c.in_default.ensures.none

pub returns-in_default-read_for : goal.returns-in_default-read_for
returns-in_default-read_for c =
    let lines = kept_from 1 c.args.bytes.now in
    tables_are lines ∙ unnamed NoFor Unreadable (λ _ x _. said_on with_line (none_yet x.1) lines) lines _ _ _ c.in-Some.ensures.some c.in_default-read_for.ensures.value

pub returns : goal.returns
returns c =
    let lines = kept_from 1 c.args.bytes.now in
    let whole = tables_are lines ∙ named NoFor Unreadable (λ _ x _. said_on with_line (none_yet x.1) lines) lines _ _ _ _ c.in-Some.ensures.some c.in-Some-read_for.ensures.value in
    subst (λ t. Gives c.put_lines.result t) (ap (λ t. said_on with_line t lines) c.begun.ensures ∙ sym whole) c.put_lines.ensures.gives
