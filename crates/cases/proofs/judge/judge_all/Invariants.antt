use Rattle.std.proofs.Common.{take}
use Rattle.std.specs.List.{AllZip}
use Rattle.cases.specs.Runs.{IsJudged}
use Rattle.cases.proofs.judge.judge_all.Given as goal

abbrev pub invariant-loop-case : goal.invariant-loop-case
invariant-loop-case l = AllZip IsJudged (take l.case-index l.cases) l.verdicts.items
