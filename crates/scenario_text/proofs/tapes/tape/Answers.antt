use Rattle.std.proofs.Common.{refl, sym, ◌∙◌, subst, arith}
use Rattle.scenario_text.specs.Tokens.{IsData}
use Rattle.scenario_text.proofs.Tokens.{text_read, text_refused}
use Rattle.scenario_text.proofs.tapes.tape.Goals as goal

pub returns-then-all_fit-clause-says : goal.returns-then-all_fit-clause-says
returns-then-all_fit-clause-says c =
    let tokens = c.in-Ok.ensures.ok.0 in
    let is = text_read c.args.text.now c.nodes.result.now (c.in_ok-is_whole.ensures.0 (grind arith)) (c.nodes.ensures.tokens ∙ tokens) (sym c.if-all_fit.true ∙ c.all_fit.ensures) in
    rw (is.0, tokens) refl

pub returns-then-all_fit-clause-is_data : goal.returns-then-all_fit-clause-is_data
returns-then-all_fit-clause-is_data c =
    let tokens = c.in-Ok.ensures.ok.0 in
    let is = text_read c.args.text.now c.nodes.result.now (c.in_ok-is_whole.ensures.0 (grind arith)) (c.nodes.ensures.tokens ∙ tokens) (sym c.if-all_fit.true ∙ c.all_fit.ensures) in
    subst IsData (sym tokens) is.1

pub returns-clause-says : goal.returns-clause-says
returns-clause-says c =
    let tokens = c.in-Ok.ensures.ok.0 in
    let none = text_refused c.args.text.now c.nodes.result.now (c.in_ok-is_whole.ensures.0 (grind arith)) (c.nodes.ensures.tokens ∙ tokens) (sym c.if-all_fit.false ∙ c.all_fit.ensures) in
    rw none refl
