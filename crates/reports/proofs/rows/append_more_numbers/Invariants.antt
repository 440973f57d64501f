use Rattle.std.proofs.Common.{◌≡◌, ◌++◌, take}
use Rattle.reports.specs.Rows.{more_numbers}
use Rattle.reports.proofs.rows.append_more_numbers.Given as goal

abbrev pub invariant-loop-number : goal.invariant-loop-number
invariant-loop-number l = l.out.items ≡ l.fn.out.items ++ more_numbers (take l.number-index l.numbers)
