use Rattle.std.proofs.Common.{◌≡◌, ℕ, ◌<◌, ◌≤◌, ◌||◌}
use Rattle.stability_laws.specs.Plans.{leaks_in}
use Rattle.trial_world.proofs.parts.leak_to.Given as goal

abbrev pub invariant-loop-round : goal.invariant-loop-round
invariant-loop-round l = record {
  leaks : (r a : ℕ) → 2 ≤ r → r < l.round → leaks_in l.part r a ≡ (leaks_in l.whole r a || leaks_in l.fn.part r a);
  later : (r a : ℕ) → l.round ≤ r → leaks_in l.part r a ≡ leaks_in l.fn.part r a;
  announced : l.part.announced ≡ l.fn.part.announced;
  prefixes : l.part.prefixes ≡ l.fn.part.prefixes;
}
