use Rattle.std.proofs.Common.{◌≡◌, ℕ, ◌<◌, ◌≤◌, Some}
use Rattle.std.specs.Prelude.{slice_get}
use Rattle.trial_world.specs.Trees.{IsRegrown}
use Rattle.trial_world.specs.declared.trees.PrefixTree.{PrefixTree}
use Rattle.trial_world.proofs.trees.grow_all.Given as goal

abbrev pub invariant-loop-one : goal.invariant-loop-one
invariant-loop-one l = record {
  done : (i : ℕ) (x y : PrefixTree) → i < l.one-index → slice_get l.fn.prefixes i ≡ Some x → slice_get l.prefixes i ≡ Some y → IsRegrown l.placed x y;
  rest : (i : ℕ) → l.one-index ≤ i → slice_get l.prefixes i ≡ slice_get l.fn.prefixes i;
}
