use Rattle.std.proofs.Common.{◌≡◌, ℕ, ◌<◌, Some}
use Rattle.std.specs.Prelude.{slice_get}
use Rattle.net_names.specs.Prefixes.{PrefixValue}
use Rattle.trial_world.specs.Trees.{AnnounceThemselves}
use Rattle.trial_world.proofs.trees.needs_no_paths.Given as goal

abbrev pub invariant-loop-prefix : goal.invariant-loop-prefix
invariant-loop-prefix l = (i : ℕ) (p : PrefixValue) → i < l.prefix-index → slice_get l.prefix-items i ≡ Some p → AnnounceThemselves l.fixed.plan p
