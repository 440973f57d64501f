use Rattle.std.proofs.Common.{◌≡◌, ℕ, ◌<◌, slice_index, true}
use Rattle.net_names.specs.Numbers.{occurs}
use Rattle.cycle_check.specs.Rows.{count_of, row}
use Rattle.cycle_check.specs.Ways.{IsLeftBelow}
use Rattle.cycle_check.proofs.way.note_customers.Given as goal

abbrev pub invariant-loop-customer : goal.invariant-loop-customer
invariant-loop-customer l = (p b : ℕ) → p < count_of l.starts → b < l.customer → 0 < slice_index l.counts b → occurs p (row l.starts l.items b) ≡ true → IsLeftBelow (row l.starts l.items) (count_of l.starts) l.counts p (slice_index l.below p)
