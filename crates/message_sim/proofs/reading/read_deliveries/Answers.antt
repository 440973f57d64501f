use Rattle.std.proofs.Common.{◌+◌, ap, sym, subst, ◌∙◌}
use Rattle.net_names.specs.Lines.{kept_from, said_on}
use Rattle.scenario_text.proofs.FileLines.{no_lines, named, unnamed}
use Rattle.message_sim.specs.Files.{Gives, deliveries_by, with_line}
use Rattle.message_sim.specs.declared.reading.DeliveriesError.TheVariants.{NoFor, Unreadable}
use Rattle.message_sim.proofs.FileLines.{begins}
use Rattle.message_sim.proofs.reading.read_deliveries.Goals as goal

pub returns-in_default : goal.returns-in_default
unfolding deliveries_by
returns-in_default c = no_lines NoFor Unreadable begins (kept_from 1 c.args.bytes.now) c.in_default.ensures.none

pub returns-in_default-read_for : goal.returns-in_default-read_for
unfolding deliveries_by
returns-in_default-read_for c = unnamed NoFor Unreadable begins (kept_from 1 c.args.bytes.now) _ _ _ c.in-Some.ensures.some c.in_default-read_for.ensures.value

pub returns : goal.returns
unfolding deliveries_by
returns c =
    let behind = kept_from (c.in-Some.first.number + 1) c.in-Some.first.rest.now in
    let whole = named NoFor Unreadable begins (kept_from 1 c.args.bytes.now) _ _ _ _ c.in-Some.ensures.some c.in-Some-read_for.ensures.value in
    subst (λ t. Gives c.put_lines.result t) (ap (λ d. said_on with_line d behind) c.begun-deliveries.ensures ∙ sym whole) c.put_lines.ensures.gives
