use Rattle.std.proofs.Common.{◌≤◌, take, true}
use Rattle.std.specs.List.{sum_by}
use Rattle.data_trace.specs.Sums.{part}
use Rattle.data_trace.proofs.sums.free.Given as goal

abbrev pub invariant-loop-place : goal.invariant-loop-place
invariant-loop-place l = l.place ≤ sum_by (part (λ e s l. true)) (take l.place l.cells)
