use Rattle.std.proofs.Common.{Option, Result, sym, ap, ◌∙◌, subst}
use Rattle.std.specs.Prelude.{ok_or}
use Rattle.std.proofs.lemmas.Result.{err_from_is_err_and}
use Rattle.serde_json.specs.Data.{Data}
use Rattle.scenario_text.specs.declared.faults.ScenarioError.{ScenarioError}
use Rattle.scenario_text.specs.declared.faults.ScenarioError.TheVariants.{NotJson}
use Rattle.scenario_text.specs.Documents.{DocumentValue}
use Rattle.scenario_text.specs.Faults.{Fails, Gives}
use Rattle.scenario_text.specs.Members.{lists_in}
use Rattle.scenario_text.specs.Readings.{document_in, lists_of_bytes}
use Rattle.scenario_text.specs.Scenarios.{ScenarioValue}
use Rattle.scenario_text.specs.Values.{lists_of}
use Rattle.scenario_text.specs.Walks.{◌>>=◌}
use Rattle.scenario_text.proofs.Faulty.{first_fails}
use Rattle.scenario_text.proofs.Texts.{json_of-none, lists_in-passes}
use Rattle.scenario_text.proofs.reading.said.Goals as goal

pub returns-in_err-document-in-Ok : goal.returns-in_err-document-in-Ok
returns-in_err-document-in-Ok c =
    let p = err_from_is_err_and c.from_residual.result c.from_residual.ensures.1 in
    let passes = lists_in-passes c.args.bytes.now c.in-Ok.text.now c.in-Ok.ensures.0 c.in-Ok.ensures.1 in
    let fails = first_fails (document_in c.in-Ok.text.now) lists_of c.in_err-document-in-Ok.field-0.0 c.in_err-document-in-Ok.ensures in
    rw (p.1, p.2) (subst (λ (r : Result ScenarioValue ScenarioError). Fails c.in_err-document-in-Ok.field-0.0 r) (sym passes) fails)

pub returns-in_ok-document-in-Ok : goal.returns-in_ok-document-in-Ok
returns-in_ok-document-in-Ok c =
    let passes = lists_in-passes c.args.bytes.now c.in-Ok.text.now c.in-Ok.ensures.0 c.in-Ok.ensures.1 in
    let is = passes ∙ ap (λ (r : Result DocumentValue ScenarioError). r >>= lists_of) c.in_ok-document-in-Ok.ensures in
    subst (λ (r : Result ScenarioValue ScenarioError). Gives c.lists.result r) (sym is) c.lists.ensures

pub returns-in-Err : goal.returns-in-Err
returns-in-Err c =
    ap (λ (o : Option Data). ok_or o NotJson >>= lists_in) (json_of-none c.args.bytes.now (λ utf8. absurd (c.in-Err.ensures utf8)))
