-- Marks of the ASes that are known to be right, by place (private clauses cite these words).
use Rattle.std.specs.Prelude.{◌≡◌, ◌⊎◌, ◌<◌, ℕ, Bool, true, false, List, length, Option, None, slice_index_or}
use Rattle.net_names.specs.declared.routes.Rel.{Rel}
use Rattle.stability_laws.specs.declared.entry.Entry.{Entry}
use Rattle.stability_laws.specs.declared.entry.Seed.{Seed}
use Rattle.stability_laws.specs.Offers.{Setting}
use Rattle.stability_laws.specs.Stable.{IsRight}

-- the AS stands at the place, for which there is a mark
pub record StandsAt (rows : List ℕ) (marks : List Bool) (place a : ℕ) : Type 0 where
  pub inside : place < length rows
  pub within : place < length marks
  pub here : slice_index_or rows place 0 ≡ a

-- the AS stands at the place, and is marked
pub record IsMarked (rows : List ℕ) (marks : List Bool) (place a : ℕ) : Type 0 where
  pub inside : place < length rows
  pub here : slice_index_or rows place 0 ≡ a
  pub marked : slice_index_or marks place false ≡ true

-- each mark stood before, or is that of this AS
abbrev pub KeepsOthers : List ℕ → ℕ → List Bool → List Bool → Type 0
KeepsOthers rows a old new = (place b : ℕ) → IsMarked rows new place b → IsMarked rows old place b ⊎ (b ≡ a)

-- each mark stood before, and is that of no such AS
abbrev pub KeepsStrangers : (ℕ → Type 0) → List ℕ → List Bool → List Bool → Type 0
KeepsStrangers P rows old new = (place b : ℕ) → IsMarked rows new place b → IsMarked rows old place b × (P b → ⊥)

-- after a turn of a each mark is that of a, or stood before, and then that of no neighbour of a if what it holds has changed
abbrev pub IsRenewed : (ℕ → ℕ → Option Rel) → ℕ → Bool → List ℕ → List Bool → List Bool → Type 0
IsRenewed relation a changed rows old new = (place b : ℕ) → IsMarked rows new place b →
    (IsMarked rows old place b × (changed ≡ true → relation a b ≡ None)) ⊎ (b ≡ a)

-- the routing is right at each AS with a mark
abbrev pub AreSettled : Setting → (ℕ → Option Seed) → (ℕ → Option Entry) → List ℕ → List Bool → Type 0
AreSettled w seeds f rows marks = (place a : ℕ) → IsMarked rows marks place a → IsRight w seeds f a
