use Rattle.std.proofs.Common.{◌≡◌, ◌&&◌, take}
use Rattle.std.specs.List.{sum_by}
use Rattle.data_trace.specs.Watches.{in_group, is_end}
use Rattle.data_trace.specs.Sums.{part}
use Rattle.data_trace.proofs.sums.Sums.count.Given as goal

abbrev pub invariant-loop-cell : goal.invariant-loop-cell
invariant-loop-cell l = l.sum ≡ sum_by (part (λ e s k. in_group l.which s k && is_end e l.end)) (take l.cell-index l.cell-items)
