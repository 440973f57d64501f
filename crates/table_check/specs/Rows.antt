-- The rows of a printed table.
use Rattle.std.specs.Prelude.{◌≡◌, ◌==◌, ◌||◌, ◌<◌, ◌-◌, ◌^◌, ℕ, ◌≤◌, Bool, true, not, length, Option, None, Some, option_and_then}
use Rattle.std.specs.Coded.{Coded, coded×, coded_ℕ, coded_option}
use Rattle.std.specs.FinMap as map
use Rattle.net_names.specs.Links.{pair_cmp}
use Rattle.stability_laws.specs.declared.entry.Entry.{Entry}
use Rattle.stability_laws.specs.contracts.entry.Entry as entry

-- at a round and an AS stands what the AS holds, or that it holds nothing (own format)
abbrev pub RowMap : Type 0
RowMap = map.FinMap pair_cmp (Option Entry)

-- how such a map is stored as a value
abbrev pub row_map_code : Coded RowMap
row_map_code = map.code (coded× coded_ℕ coded_ℕ) (coded_option entry.the_row.coded)

-- what the AS holds in the round by the rows; nothing where it has no row (own format)
abbrev pub held_by : map.FinMap pair_cmp (Option Entry) → ℕ → ℕ → Option Entry
held_by rows round a = option_and_then (λ held. held) (map.get rows (round, a))

-- each path has at most 4294967294 numbers
abbrev pub HasShortRows : RowMap → Type 0
HasShortRows rows = (k : ℕ × ℕ) (e : Entry) → map.get rows k ≡ Some (Some e) → length e.path ≤ 4294967294

-- each path that is held in a round has at most 4294967294 numbers
abbrev pub HoldsShort : RowMap → Type 0
HoldsShort rows = (round a : ℕ) (e : Entry) → held_by rows round a ≡ Some e → length e.path < 2 ^ 32 - 1

-- the row is of another round, says that nothing is held, or is of an AS of the world
abbrev pub inside_row : (ℕ → Bool) → ℕ → (ℕ × ℕ) × Option Entry → Bool
inside_row has round row = elim row.1 [ None ↦ true | Some e ↦ not (row.0.0 == round) || has row.0.1 ]
