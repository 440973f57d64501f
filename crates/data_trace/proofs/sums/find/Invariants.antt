use Rattle.std.proofs.Common.{◌≡◌, take, false}
use Rattle.std.specs.List.{list_any}
use Rattle.data_trace.specs.Sums.{is_counted}
use Rattle.data_trace.proofs.sums.find.Given as goal

abbrev pub invariant-loop-place : goal.invariant-loop-place
invariant-loop-place l = list_any (is_counted l.end l.stub l.label) (take l.place l.cells) ≡ false
