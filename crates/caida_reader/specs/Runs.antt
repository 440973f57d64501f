-- Pairs kept in parts, of which each is a map of its own.
use Rattle.std.specs.Prelude.{◌≡◌, ℕ, ◌↔◌, List, ◌++◌, All, Contains, map, Option, IsSome, Some, None}
use Rattle.std.specs.FinMap as fin
use Rattle.std.specs.declared.cmp.Ordering.TheVariants.{Less}
use Rattle.net_names.specs.Links.{pair_cmp}
use Rattle.net_names.specs.declared.routes.Rel.{Rel}
use Rattle.net_names.specs.declared.links.Link.{Link}
use Rattle.caida_reader.specs.Firsts.{FirstMap, with_first, relations, ArePairs}
use Rattle.caida_reader.specs.Marks.{IsMarked}
use Rattle.caida_reader.specs.declared.firsts.First.{First}

-- A pair above all pairs of the map.
abbrev pub IsPast : FirstMap → ℕ × ℕ → Type 0
IsPast pairs pair = All (λ e. pair_cmp e.0 pair ≡ Less) (fin.entries pairs)

-- The pairs of two maps; of a pair of both the first map's line counts.
abbrev pub joined : FirstMap → FirstMap → FirstMap
joined front back = fin.from_entries (fin.entries front ++ fin.entries back)

-- An entry with the ends of its pair exchanged.
abbrev pub turned : (ℕ × ℕ) × First → (ℕ × ℕ) × First
turned entry = ((entry.0.1, entry.0.0), entry.1)

-- The pairs with their ends exchanged, and their first lines.
abbrev pub all_turned : FirstMap → FirstMap
all_turned pairs = fin.from_entries (map turned (fin.entries pairs))

-- No pair stands in both maps.
abbrev pub AreApart : FirstMap → FirstMap → Type 0
AreApart front back = (pair : ℕ × ℕ) → IsSome (fin.get back pair) → fin.get front pair ≡ None

-- The pairs that stand are marked.
abbrev pub AreMarked : FirstMap → List ℕ → Type 0
AreMarked pairs marks = (pair : ℕ × ℕ) → IsSome (fin.get pairs pair) → IsMarked marks pair

-- Two runs, of which the second has its pairs with the ends exchanged: no pair stands in both, and those of the first are marked.
pub record AreRuns (rising exchanged : FirstMap) (marks : List ℕ) : Type 0 where
  pub apart : AreApart rising (all_turned exchanged)
  pub marked : AreMarked rising marks

-- The link of a pair with its first line.
abbrev pub link_of : (ℕ × ℕ) × First → Link
link_of entry = record { lo = entry.0.0; hi = entry.0.1; rel = entry.1.rel }

-- The links are those of the pairs, in any order.
abbrev pub Lists : List Link → FirstMap → Type 0
Lists links pairs = (lo hi : ℕ) (rel : Rel) → (fin.get (relations pairs) (lo, hi) ≡ Some rel) ↔ Contains links (record { lo = lo; hi = hi; rel = rel })

-- No pair stands both in a run and among the others, and the pairs are as they have to be.
pub record AreFirsts (runs others : FirstMap) (count : ℕ) : Type 0 where
  pub apart : AreApart runs others
  pub pairs : ArePairs (joined runs others) count

-- The pair is put in, unless it stands; this is the first line of the pair that stood.
pub record Puts (runs others : FirstMap) (pair : ℕ × ℕ) (given : First) (new_runs new_others : FirstMap) (first : Option First) : Type 0 where
  pub value : first ≡ fin.get (joined runs others) pair
  pub after : joined new_runs new_others ≡ with_first (joined runs others) pair given
  pub apart : AreApart new_runs new_others
