-- Pairs of ASes of which the lower comes first.
use Rattle.std.specs.Prelude.{ℕ, ◌<◌, IsSome}
use Rattle.std.specs.FinMap as fin
use Rattle.net_names.specs.Links.{LinkMap}

-- each pair that has a link has its lower AS first
abbrev pub AreRising : LinkMap → Type 0
AreRising links = (pair : ℕ × ℕ) → IsSome (fin.get links pair) → pair.0 < pair.1
