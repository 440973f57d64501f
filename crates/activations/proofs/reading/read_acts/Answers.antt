use Rattle.std.proofs.Common.{◌+◌, ap, sym, subst, ◌∙◌}
use Rattle.net_names.specs.Lines.{kept_from, said_on}
use Rattle.scenario_text.proofs.FileLines.{no_lines, named, unnamed}
use Rattle.activations.specs.Files.{Gives, acts_by, with_line}
use Rattle.activations.specs.declared.reading.ActsError.TheVariants.{NoFor, Unreadable}
use Rattle.activations.proofs.Sound.{no_acts, sound_none}
use Rattle.activations.proofs.reading.read_acts.Goals as goal

pub returns-in_default-clause-gives : goal.returns-in_default-clause-gives
unfolding acts_by
returns-in_default-clause-gives c = no_lines NoFor Unreadable (λ n x. said_on with_line (no_acts n x)) (kept_from 1 c.args.bytes.now) c.in_default.ensures.none

pub returns-in_default-read_for-clause-gives : goal.returns-in_default-read_for-clause-gives
unfolding acts_by
returns-in_default-read_for-clause-gives c = unnamed NoFor Unreadable (λ n x. said_on with_line (no_acts n x)) (kept_from 1 c.args.bytes.now) _ _ _ c.in-Some.ensures.some c.in_default-read_for.ensures.value

pub put_lines-requires-clause-ready : goal.put_lines-requires-clause-ready
put_lines-requires-clause-ready c = sound_none _ _ _ c.begun-acts.ensures

pub returns-clause-gives : goal.returns-clause-gives
unfolding acts_by
returns-clause-gives c =
    let behind = kept_from (c.in-Some.first.number + 1) c.in-Some.first.rest.now in
    let whole = named NoFor Unreadable (λ n x. said_on with_line (no_acts n x)) (kept_from 1 c.args.bytes.now) _ _ _ _ c.in-Some.ensures.some c.in-Some-read_for.ensures.value in
    subst (λ t. Gives c.put_lines.result t) (ap (λ acts. said_on with_line acts behind) c.begun-acts.ensures ∙ sym whole) c.put_lines.ensures.gives
