use Rattle.std.proofs.Common.{◌≡◌, take}
use Rattle.std.specs.List.{sum_by}
use Rattle.data_trace.specs.Watches.{in_group}
use Rattle.data_trace.specs.Sums.{part}
use Rattle.data_trace.proofs.sums.Sums.size.Given as goal

abbrev pub invariant-loop-cell : goal.invariant-loop-cell
invariant-loop-cell l = l.sum ≡ sum_by (part (λ e s k. in_group l.which s k)) (take l.cell-index l.cell-items)
