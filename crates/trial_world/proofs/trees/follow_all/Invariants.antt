use Rattle.std.proofs.Common.{◌≡◌, ℕ, ◌<◌, List, length}
use Rattle.std.specs.Prelude.{slice_index}
use Rattle.data_trace.specs.declared.kinds.Hop.{Hop}
use Rattle.routing_tree.specs.Ends.{AreEnds}
use Rattle.trial_world.specs.Trees.{HoldsNoneBefore, SendByFirst}
use Rattle.trial_world.proofs.trees.follow_all.Given as goal

abbrev pub invariant-loop-one : goal.invariant-loop-one
invariant-loop-one l = record {
  count : length l.ends.ends.items ≡ length l.fn.ends.ends.items;
  none : (k : ℕ) → k < length l.fn.ends.ends.items → slice_index l.ends.ends.items k ≡ 0 → HoldsNoneBefore l.prefixes l.one-index k;
  ends : (next : ℕ → Hop) (ases : List ℕ) → length ases ≡ length l.fn.ends.ends.items → SendByFirst next ases l.prefixes → AreEnds next ases l.ends.ends.items;
}
