use Rattle.std.proofs.Common.{◌≡◌, ◌++◌, take}
use Rattle.std.specs.List.{flat_map, zip}
use Rattle.cases.specs.Reports.{failed_text}
use Rattle.cases.proofs.report.put_failed.Given as goal

abbrev pub invariant-loop-place : goal.invariant-loop-place
invariant-loop-place l = l.out.items ≡ l.fn.out.items ++ flat_map failed_text (zip (take l.place l.cases) (take l.place l.verdicts))
