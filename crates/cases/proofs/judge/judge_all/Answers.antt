use Rattle.std.proofs.Common.{subst}
use Rattle.cases.specs.Runs.{IsJudged}
use Rattle.cases.specs.declared.case.Case.{Case}
use Rattle.cases.proofs.Pushes.{more_zipped}
use Rattle.cases.proofs.judge.judge_all.Goals as goal

pub loop-case-preserved : goal.loop-case-preserved
loop-case-preserved c =
    more_zipped IsJudged c.args.cases.now _ _ c.loop-case.case-index c.case-item.result _ c.loop-case-test.true c.in_ok-push.ensures.items c.loop-case.invariant
    (subst (λ (x : Case). IsJudged x c.in_ok-judge.field-0) c.case-item.is c.in_ok-judge.ensures)
