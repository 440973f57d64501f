use Rattle.std.proofs.Common.{◌≡◌, ℕ, suc, Some, Vec, Global, length}
use Rattle.std.specs.Prelude.{slice_get}
use Rattle.std.specs.Ordering.{nat_cmp}
use Rattle.stability_laws.specs.Plans.{ListsRising}
use Rattle.leak_round.specs.Told.{IsToldOf}
use Rattle.leak_round.proofs.told.listed.Given as goal

abbrev pub invariant-loop-before : goal.invariant-loop-before
invariant-loop-before l = record {
  count : length l.changed.items ≡ l.before;
  told : (i : ℕ) (v : Vec ℕ Global) → slice_get l.changed.items i ≡ Some v → ListsRising nat_cmp (IsToldOf l.changes l.edited (suc i)) v.items;
}
