use Rattle.std.proofs.Common.{ℕ, ◌<◌, slice_index}
use Rattle.routing_tree.specs.Ends.{FollowOn}
use Rattle.routing_tree.specs.Trees.{IsLowAt}
use Rattle.routing_tree.proofs.ends.Ends.follow_up.Given as goal

abbrev pub invariant-loop-place : goal.invariant-loop-place
invariant-loop-place l = record {
  on : FollowOn l.tree l.initial.self.ends.items l.self.ends.items;
  known : (k : ℕ) → k < l.place → IsLowAt l.tree k → 0 < slice_index l.self.ends.items k;
}
