use Rattle.std.proofs.Common.{◌≡◌, ℕ, Some, map, take}
use Rattle.std.specs.Prelude.{slice_get}
use Rattle.trial_world.specs.Trees.{IsTreeFor}
use Rattle.trial_world.specs.declared.trees.PrefixTree.{PrefixTree}
use Rattle.trial_world.proofs.trees.blank_trees.Given as goal

abbrev pub invariant-loop-prefix : goal.invariant-loop-prefix
invariant-loop-prefix l = record {
  each : (i : ℕ) (one : PrefixTree) → slice_get l.trees.items i ≡ Some one → IsTreeFor l.fixed l.order.ases one;
  prefixes_are : map (λ (t : PrefixTree). t.prefix) l.trees.items ≡ take l.prefix-index l.prefix-items;
}
