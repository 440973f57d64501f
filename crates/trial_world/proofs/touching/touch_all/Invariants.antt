use Rattle.std.proofs.Common.{◌≡◌, ◌<◌, ℕ, true, get_or}
use Rattle.net_names.specs.Prefixes.{PrefixValue}
use Rattle.leak_round.specs.Touched.{touches}
use Rattle.policy_kinds.specs.declared.kind.Kind.{Kind}
use Rattle.trial_world.specs.Tables.{IsTouchedAround}
use Rattle.trial_world.proofs.touching.touch_all.Given as goal

abbrev pub invariant-loop-one : goal.invariant-loop-one
invariant-loop-one l = record {
  these : (k : ℕ) (d : ℕ × Kind) → k < l.one-index → IsTouchedAround l.graph l.book (get_or l.before k d) (touches l.touched l.prefix);
  more : (p : PrefixValue) (a : ℕ) → touches l.fn.touched p a ≡ true → touches l.touched p a ≡ true;
}
