use Rattle.std.proofs.Common.{◌≡◌, ◌≢◌, ℕ, ◌<◌, ◌≤◌, vec_capacity, get_or}
use Rattle.data_trace.specs.declared.places.Mark.TheVariants.{Unknown}
use Rattle.data_trace.specs.Marks.{next_of, mark_of, AreRight}
use Rattle.data_trace.specs.Sums.{room_of}
use Rattle.data_trace.specs.Counted.{AreCounted}
use Rattle.data_trace.proofs.walks.settle_each.Given as goal

abbrev pub invariant-places : goal.invariant-places
invariant-places l = record {
  right : AreRight (next_of l.hops) l.marks;
  kept : (x : ℕ) → mark_of l.fn.marks x ≢ Unknown → mark_of l.marks x ≡ mark_of l.fn.marks x;
  done : (k : ℕ) → k < l.place-index → mark_of l.marks (get_or l.places k 0) ≢ Unknown;
  room : vec_capacity l.fn.path ≤ vec_capacity l.path;
  counted : AreCounted l.sums l.ases l.marks l.groups;
  sums_room : room_of l.fn.sums ≤ room_of l.sums;
}
