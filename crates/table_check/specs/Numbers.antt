-- The numbers of paths that are held (private clauses cite these words).
use Rattle.std.specs.Prelude.{◌≡◌, ℕ, Option, Some}
use Rattle.std.specs.BTreeMap.{get}
use Rattle.std.specs.Ordering.{nat_cmp}
use Rattle.net_names.specs.Numbers.{occurs}
use Rattle.stability_laws.specs.declared.entry.Entry.{Entry}
use Rattle.table_check.specs.declared.long_paths.LongPaths.{LongPaths}
use Rattle.table_check.specs.declared.numbers.Numbers.{Numbers}

-- the numbers that are kept of an AS are those of the path that it holds, where it holds one (own rule)
abbrev pub AreNumbers : (ℕ → Option Entry) → LongPaths → Type 0
AreNumbers held long = (n : ℕ) (s : Numbers) → get nat_cmp long.numbers n ≡ Some s →
    (e : Entry) → held n ≡ Some e → (a : ℕ) → occurs a s.sorted.items ≡ occurs a e.path
