-- The sums of ASes by end and group.
use Rattle.std.specs.Prelude.{ℕ, Bool, true, false, not, ◌&&◌, ◌==◌, if◌then◌else◌, vec_capacity, nat_lt}
use Rattle.std.specs.List.{sum_by}
use Rattle.data_trace.specs.declared.kinds.End.{End}
use Rattle.data_trace.specs.declared.cell.Cell.{Cell}
use Rattle.data_trace.specs.declared.sums.Sums.{Sums}
use Rattle.data_trace.specs.Watches.{is_end}

-- how many ASes of the cell are counted, if its end, stub flag and policy's number pass the test
abbrev pub part : (End → Bool → ℕ → Bool) → Cell → ℕ
part p c = if p c.end c.stub c.label then c.count else 0

-- how many ASes are counted whose end, stub flag and policy's number pass the test
abbrev pub total : (End → Bool → ℕ → Bool) → Sums → ℕ
total p s = sum_by (part p) s.cells.items

-- how many cells the sums can have without memory
abbrev pub room_of : Sums → ℕ
room_of s = vec_capacity s.cells

-- whether two flags are the same
abbrev pub is_same_flag : Bool → Bool → Bool
is_same_flag true b = b
is_same_flag false b = not b

-- whether an end, a stub flag and a policy's number are these
abbrev pub is_key : End → Bool → ℕ → End → Bool → ℕ → Bool
is_key end stub label e s l = is_end e end && (is_same_flag s stub && (l == label))

-- whether the cell counts any AS, and those are of this end, stub flag and policy's number
abbrev pub is_counted : End → Bool → ℕ → Cell → Bool
is_counted end stub label c = nat_lt 0 c.count && is_key end stub label c.end c.stub c.label
