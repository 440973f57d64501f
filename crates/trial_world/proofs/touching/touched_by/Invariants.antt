use Rattle.std.proofs.Common.{◌≡◌, ◌<◌, ℕ, Some}
use Rattle.std.specs.List.{All}
use Rattle.std.specs.Prelude.{slice_get}
use Rattle.net_names.specs.Prefixes.{PrefixValue}
use Rattle.leak_round.specs.Touched.{touches}
use Rattle.trial_world.specs.Tables.{IsTouchedAround}
use Rattle.trial_world.proofs.touching.touched_by.Given as goal

abbrev pub invariant-loop-prefix : goal.invariant-loop-prefix
invariant-loop-prefix l = (place : ℕ) (p : PrefixValue) → place < l.prefix-index → slice_get l.prefix-items place ≡ Some p → All (λ c. IsTouchedAround l.graph l.book c (touches l.touched p)) l.before
