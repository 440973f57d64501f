-- How long the paths of seeds are.
use Rattle.std.specs.Prelude.{◌≡◌, ℕ, ◌≤◌, Some, length}
use Rattle.std.specs.FinMap as map
use Rattle.std.specs.Ordering.{nat_cmp}
use Rattle.stability_laws.specs.declared.entry.Seed.{Seed}

-- the path of each seed has at most so many numbers
abbrev pub HaveAtMost : ℕ → map.FinMap nat_cmp Seed → Type 0
HaveAtMost most seeds = (a : ℕ) (seed : Seed) → map.get seeds a ≡ Some seed → length seed.path ≤ most
