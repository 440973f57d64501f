use Rattle.std.proofs.Common.{◌≡◌, ℕ, ◌≤◌, vec_capacity}
use Rattle.std.specs.List.{count_by}
use Rattle.data_trace.specs.Marks.{next_of, mark_of, end_in, is_unknown, IsWalk}
use Rattle.data_trace.proofs.walks.walk.Given as goal

abbrev pub invariant-steps : goal.invariant-steps
invariant-steps l = record {
  walk : IsWalk (next_of l.hops) l.fn.marks l.marks l.path.items l.from l.at;
  same : (x : ℕ) → end_in (mark_of l.marks x) ≡ end_in (mark_of l.fn.marks x);
  room : vec_capacity l.fn.path ≤ vec_capacity l.path;
}

abbrev pub decreases-steps : goal.decreases-steps
decreases-steps l = count_by is_unknown l.marks
