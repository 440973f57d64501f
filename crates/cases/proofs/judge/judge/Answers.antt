use Rattle.std.proofs.Common.{List, ap, subst, ◌∙◌}
use Rattle.std.proofs.lemmas.List.{take_all}
use Rattle.std.specs.List.{AllZip, list_all}
use Rattle.cases.specs.Runs.{IsTried}
use Rattle.cases.specs.declared.case.Way.{Way}
use Rattle.cases.proofs.Pushes.{more_zipped}
use Rattle.cases.proofs.judge.judge.Goals as goal

pub loop-way-preserved : goal.loop-way-preserved
loop-way-preserved c =
    more_zipped (IsTried c.args.case.now) c.ways_of-way-items.result.now _ _ c.loop-way.way-index _ _ c.loop-way-test.true c.in_ok-push.ensures.items c.loop-way.invariant c.in_ok-try_way.ensures

pub returns : goal.returns
returns c =
    let each = c.loop-way.passed.items in
    let tried : AllZip (IsTried c.args.case.now) c.ways_of-way-items.result.now each = rw (take_all c.loop-way.way-index c.ways_of-way-items.result.now c.loop-way-test.false) at c.loop-way.invariant in
    (each, subst (λ (ways : List Way). AllZip (IsTried c.args.case.now) ways each) c.ways_of-way-items.ensures tried, c.all_passed.ensures ∙ ap (list_all (λ b. b)) c.deref.ensures.value)
