-- The two ends of each link, and the row that an AS makes of those at which it stands.
use Rattle.std.specs.Prelude.{◌≡◌, ◌⊎◌, ℕ, ◌<◌, ◌≤◌, ◌==◌, if◌then◌else◌, Option, Some, option_map, List, [], ◌∷◌, ◌++◌, length, slice_get, slice_index_or, All}
use Rattle.std.specs.List.Sorted.{IsNonDecreasingBy}
use Rattle.net_names.specs.declared.routes.Rel.{Rel}
use Rattle.net_names.specs.Links.{converse}
use Rattle.as_graph.specs.declared.neighbour.Neighbour.{Neighbour}
use Rattle.as_graph.specs.declared.ends.End.{End}

-- at its lower end a link has the higher AS as neighbour
abbrev pub lower_ends : List ((ℕ × ℕ) × Rel) → List End
lower_ends [] = []
lower_ends (e ∷ es) = record { at = e.0.0; neighbour = record { asn = e.0.1; rel = e.1 } } ∷ lower_ends es

-- at its higher end a link has the lower AS as neighbour
abbrev pub higher_ends : List ((ℕ × ℕ) × Rel) → List End
higher_ends [] = []
higher_ends (e ∷ es) = record { at = e.0.1; neighbour = record { asn = e.0.0; rel = converse e.1 } } ∷ higher_ends es

-- the neighbours at the ends where an AS stands, in their order
abbrev pub ends_at : ℕ → List End → List Neighbour
ends_at a [] = []
ends_at a (x ∷ xs) = if x.at == a then x.neighbour ∷ ends_at a xs else ends_at a xs

-- the row of an AS: its lower neighbours, and then its higher ones
abbrev pub row_of : List ((ℕ × ℕ) × Rel) → ℕ → List Neighbour
row_of es a = ends_at a (higher_ends es) ++ ends_at a (lower_ends es)

-- each link has its lower AS first
abbrev pub AreTurned : List ((ℕ × ℕ) × Rel) → Type 0
AreTurned es = All (λ e. e.0.0 < e.0.1) es

-- the ends stand in rising order of their ASes
abbrev pub AreByAs : List End → Type 0
AreByAs xs = IsNonDecreasingBy (λ x. x.at) xs

-- the AS at a place
abbrev pub at_of : List End → ℕ → Option ℕ
at_of xs k = option_map (λ x. x.at) (slice_get xs k)

-- the ends from one place on are those of the AS up to another place, and then of higher ASes
pub record IsRun (xs : List End) (a from to : ℕ) : Type 0 where
  pub start : from ≤ to
  pub within : to ≤ length xs
  pub these : (k : ℕ) (d : End) → from ≤ k → k < to → (slice_index_or xs k d).at ≡ a
  pub after : (k : ℕ) (d : End) → to ≤ k → k < length xs → a < (slice_index_or xs k d).at

-- the least AS at the ends of two lists from one place of each on
pub record IsNextEnd (hs ls : List End) (j i a : ℕ) : Type 0 where
  pub among : (at_of hs j ≡ Some a) ⊎ (at_of ls i ≡ Some a)
  pub higher : (k : ℕ) (d : End) → j ≤ k → k < length hs → a ≤ (slice_index_or hs k d).at
  pub lower : (k : ℕ) (d : End) → i ≤ k → k < length ls → a ≤ (slice_index_or ls k d).at
