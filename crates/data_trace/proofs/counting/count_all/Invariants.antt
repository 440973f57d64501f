use Rattle.std.proofs.Common.{◌≡◌, ℕ, ◌≤◌, Bool}
use Rattle.data_trace.specs.declared.kinds.End.{End}
use Rattle.data_trace.specs.Sums.{total, room_of}
use Rattle.data_trace.specs.Counted.{adds_at, summed}
use Rattle.data_trace.proofs.counting.count_all.Given as goal

abbrev pub invariant-places : goal.invariant-places
invariant-places l = record {
  counted : (p : End → Bool → ℕ → Bool) → total p l.sums ≡ summed (adds_at p l.ases l.marks l.groups) l.place;
  room : room_of l.fn.sums ≤ room_of l.sums;
}
