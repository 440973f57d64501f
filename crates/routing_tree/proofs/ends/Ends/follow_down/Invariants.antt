use Rattle.std.proofs.Common.{ℕ, ◌<◌, ◌≤◌, length, slice_index}
use Rattle.routing_tree.specs.Ends.{FollowOn}
use Rattle.routing_tree.proofs.ends.Ends.follow_down.Given as goal

abbrev pub invariant-loop-left : goal.invariant-loop-left
invariant-loop-left l = record {
  on : FollowOn l.tree l.initial.self.ends.items l.self.ends.items;
  inside : l.left ≤ length l.initial.self.ends.items;
  known : (k : ℕ) → l.left ≤ k → k < length l.initial.self.ends.items → 0 < slice_index l.tree.lengths.items k → 0 < slice_index l.self.ends.items k;
}

abbrev pub decreases-loop-left : goal.decreases-loop-left
decreases-loop-left l = l.left
