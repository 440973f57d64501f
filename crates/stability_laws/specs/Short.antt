-- Paths that one AS more can be put before.
use Rattle.std.specs.Prelude.{◌≡◌, ℕ, ◌<◌, ◌-◌, ◌^◌, Some, length}
use Rattle.std.specs.Ordering.{nat_cmp}
use Rattle.std.specs.FinMap as map
use Rattle.stability_laws.specs.declared.entry.Entry.{Entry}

-- each path has at most MOST_IN_PATH numbers
abbrev pub HasShortPaths : map.FinMap nat_cmp Entry → Type 0
HasShortPaths f = (n : ℕ) (e : Entry) → map.get f n ≡ Some e → length e.path < 2 ^ 32 - 1
