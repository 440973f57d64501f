-- The two ways, by rising rank and by falling rank.
use Rattle.std.specs.Prelude.{ℕ, ◌≤◌}
use Rattle.dirty_recompute.specs.declared.way.Way.{Way}
use Rattle.dirty_recompute.specs.declared.way.Way.TheVariants.{Up, Down}

-- going this way, the first number comes no later than the second
abbrev pub IsNoLater : Way → ℕ → ℕ → Type 0
IsNoLater Up x y = x ≤ y
IsNoLater Down x y = y ≤ x
