use Rattle.std.proofs.Common.{arith, IsOk, subst, sym, ◌∙◌}
use Rattle.net_names.specs.Lines.{kept_from}
use Rattle.scenario_text.specs.Script.{command, script_of}
use Rattle.scenario_text.specs.Walks.{each_from}
use Rattle.scenario_text.proofs.Walking.{each_from-values}
use Rattle.scenario_text.proofs.Accepted.{ok_value, forms_of, accepted_of, lines_given}
use Rattle.scenario_text.proofs.laws.lines_are_those_said.Goals as goal

pub returns-clause-accepted : goal.returns-clause-accepted
unfolding script_of
returns-clause-accepted c = λ bytes.
    let said = kept_from 1 bytes in (
      λ ok.
          let lines = ok_value (each_from command 0 said) (subst IsOk (each_from-values command 0 said) ok) in
          let forms = forms_of 0 said lines.0 (omega arith) lines.1 in (forms.0, omega (arith, forms.1)),
      λ h. subst IsOk (sym (each_from-values command 0 said)) (accepted_of 0 said h.0 (omega (arith, h.1))),
    )

pub returns-clause-lines : goal.returns-clause-lines
unfolding script_of
returns-clause-lines c = λ bytes lines h. lines_given 0 (kept_from 1 bytes) lines (sym (each_from-values command 0 (kept_from 1 bytes)) ∙ h)
