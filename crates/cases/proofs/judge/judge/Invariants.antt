use Rattle.std.proofs.Common.{take}
use Rattle.std.specs.List.{AllZip}
use Rattle.cases.specs.Runs.{IsTried}
use Rattle.cases.proofs.judge.judge.Given as goal

abbrev pub invariant-loop-way : goal.invariant-loop-way
invariant-loop-way l = AllZip (IsTried l.case) (take l.way-index l.way-items) l.passed.items
