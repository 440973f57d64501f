use Rattle.cases.proofs.Pushes.{more_told}
use Rattle.cases.proofs.report.put_failed.Goals as goal

pub loop-place-preserved : goal.loop-place-preserved
loop-place-preserved c =
    more_told c.args.cases.now c.args.verdicts.now c.loop-place.place c.index-cases-place.result _ c.args.out.now.items _ _ c.loop-place-test.true c.requires c.index-cases-place.is c.loop-place.invariant c.in_ok-put_verdict.ensures
