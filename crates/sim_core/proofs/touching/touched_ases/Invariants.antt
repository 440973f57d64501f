use Rattle.std.proofs.Common.{◌≡◌, ◌<◌, ℕ, true, Some}
use Rattle.std.specs.Prelude.{slice_get}
use Rattle.net_names.specs.Numbers.{occurs}
use Rattle.net_names.specs.Prefixes.{PrefixValue}
use Rattle.leak_round.specs.Touched.{touches}
use Rattle.sim_core.proofs.touching.touched_ases.Given as goal

abbrev pub invariant-loop-prefix : goal.invariant-loop-prefix
invariant-loop-prefix l = record {
  only : (p : PrefixValue) (a : ℕ) → touches l.touched p a ≡ true → occurs a l.ases ≡ true;
  these : (place : ℕ) (p : PrefixValue) (a : ℕ) → place < l.prefix-index → slice_get l.prefix-items place ≡ Some p → occurs a l.ases ≡ true → touches l.touched p a ≡ true;
}
