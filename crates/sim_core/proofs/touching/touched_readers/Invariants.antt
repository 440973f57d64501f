use Rattle.std.proofs.Common.{◌≡◌, ◌<◌, ℕ, true, Some}
use Rattle.std.specs.Prelude.{slice_get}
use Rattle.net_names.specs.Coverage.{covers}
use Rattle.net_names.specs.Prefixes.{PrefixValue}
use Rattle.policy_kinds.specs.Kinds.{kind_policy}
use Rattle.stability_laws.specs.Book.{policy_at}
use Rattle.leak_round.specs.Touched.{touches}
use Rattle.sim_core.specs.Ground.{AreReadersTouched}
use Rattle.sim_core.proofs.touching.touched_readers.Given as goal

abbrev pub invariant-loop-prefix : goal.invariant-loop-prefix
invariant-loop-prefix l = record {
  only : (p : PrefixValue) (a : ℕ) → touches l.touched p a ≡ true → (covers l.vrp.prefix p ≡ true) × ((kind_policy (policy_at l.book a)).reads_state ≡ true);
  these : (place : ℕ) (p : PrefixValue) → place < l.prefix-index → slice_get l.prefix-items place ≡ Some p → AreReadersTouched l.readers l.book l.vrps l.vrp l.plan p (touches l.touched p);
}
