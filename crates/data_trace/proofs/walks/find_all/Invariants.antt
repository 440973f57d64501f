use Rattle.std.proofs.Common.{◌≡◌, ◌≢◌, ℕ, ◌<◌, ◌≤◌, length, vec_capacity}
use Rattle.data_trace.specs.declared.places.PlaceEnd.TheVariants.{At}
use Rattle.data_trace.specs.declared.places.Mark.TheVariants.{Unknown, Known}
use Rattle.data_trace.specs.Marks.{next_of, mark_of, AreRight}
use Rattle.data_trace.proofs.walks.find_all.Given as goal

abbrev pub invariant-places : goal.invariant-places
invariant-places l = record {
  right : AreRight (next_of l.hops) l.marks;
  done : (x : ℕ) → x < l.from → mark_of l.marks x ≢ Unknown;
  below : (x y : ℕ) → mark_of l.marks x ≡ Known (At y) → y < length l.hops;
  room : vec_capacity l.fn.path ≤ vec_capacity l.path;
}
