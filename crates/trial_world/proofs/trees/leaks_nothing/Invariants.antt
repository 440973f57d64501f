use Rattle.std.proofs.Common.{◌≡◌, ℕ, ◌<◌, ◌≤◌, false}
use Rattle.stability_laws.specs.Plans.{leaks_in}
use Rattle.trial_world.proofs.trees.leaks_nothing.Given as goal

abbrev pub invariant-loop-round : goal.invariant-loop-round
invariant-loop-round l = (r a : ℕ) → 2 ≤ r → r < l.round → leaks_in l.plan r a ≡ false
