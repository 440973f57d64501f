-- The way down through the places without a rank.
use Rattle.std.specs.Prelude.{◌≡◌, ◌⊎◌, ℕ, true, false, ◌<◌, Option, Some, List, [], length, slice_index}
use Rattle.net_names.specs.Numbers.{occurs, IsDistinct, last_or}
use Rattle.net_names.specs.declared.routes.Rel.{Rel}
use Rattle.net_names.specs.declared.routes.Rel.TheVariants.{Customer}
use Rattle.as_graph.specs.Hierarchy.{IsDescent}

-- the customer is noted at a place of the list, and another place has what it had
abbrev pub IsNoted : List ℕ → ℕ → ℕ → ℕ → ℕ → Type 0
IsNoted providers customer p old new = ((occurs p providers ≡ true) × (new ≡ customer)) ⊎ ((occurs p providers ≡ false) × (new ≡ old))

-- c is a customer of p without a rank
pub record IsLeftBelow (rows : ℕ → List ℕ) (n : ℕ) (counts : List ℕ) (p c : ℕ) : Type 0 where
  pub inside : c < n
  pub left : 0 < slice_index counts c
  pub linked : occurs p (rows c) ≡ true

-- each place without a rank has a customer without one
abbrev pub AllLeftBelow : (ℕ → List ℕ) → ℕ → List ℕ → Type 0
AllLeftBelow rows n counts = (p : ℕ) → p < n → 0 < slice_index counts p → (c : ℕ) × IsLeftBelow rows n counts p c

-- at each place without a rank the list gives a customer without one
abbrev pub AreLeftBelow : (ℕ → List ℕ) → ℕ → List ℕ → List ℕ → Type 0
AreLeftBelow rows n counts below = (p : ℕ) → p < n → 0 < slice_index counts p → IsLeftBelow rows n counts p (slice_index below p)

-- the way down goes on at a place without a rank; who was met is on the way, each once
pub record IsWay (relation : ℕ → ℕ → Option Rel) (counts seen way : List ℕ) (at : ℕ) : Type 0 where
  pub room : length seen ≡ length counts
  pub inside : at < length counts
  pub left : 0 < slice_index counts at
  pub met : (p : ℕ) → 0 < slice_index seen p → occurs p way ≡ true
  pub unmet : (p : ℕ) → p < length counts → slice_index seen p ≡ 0 → occurs p way ≡ false
  pub below : (p : ℕ) → occurs p way ≡ true → p < length counts
  pub distinct : IsDistinct way
  pub descends : IsDescent relation way
  pub last : (way ≡ []) ⊎ (relation (last_or 0 way) at ≡ Some Customer)

-- the last place on the way down is a provider of a place on the way
pub record LeadsBack (relation : ℕ → ℕ → Option Rel) (way : List ℕ) (a : ℕ) : Type 0 where
  pub descends : IsDescent relation way
  pub distinct : IsDistinct way
  pub on_way : occurs a way ≡ true
  pub back : relation (last_or 0 way) a ≡ Some Customer
