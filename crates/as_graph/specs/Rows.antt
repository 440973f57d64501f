-- The neighbours of one AS, as they are kept.
use Rattle.std.specs.Prelude.{◌≡◌, ◌≢◌, ℕ, ◌<◌, ◌≤◌, List, [], ◌∷◌, length, if◌then◌else◌, ◌==◌, slice_index_or, Some, None, Option}
use Rattle.net_names.specs.declared.routes.Rel.{Rel}
use Rattle.net_names.specs.declared.routes.Rel.TheVariants.{Customer}
use Rattle.as_graph.specs.declared.neighbour.Neighbour.{Neighbour}

-- what the first neighbour of that number is
abbrev pub rel_in : List Neighbour → ℕ → Option Rel
rel_in [] b = None
rel_in (n ∷ ns) b = if n.asn == b then Some n.rel else rel_in ns b

-- what stands past the end
abbrev pub blank : Neighbour
blank = record { asn = 0; rel = Customer }

-- the number of the neighbour at a place
abbrev pub asn_at : List Neighbour → ℕ → ℕ
asn_at ns i = (slice_index_or ns i blank).asn

-- the numbers rise, so none stands twice
abbrev pub IsRising : List Neighbour → Type 0
IsRising ns = (i j : ℕ) → i < j → j < length ns → asn_at ns i < asn_at ns j

-- each neighbour's number is below this one
abbrev pub AreBelow : List Neighbour → ℕ → Type 0
AreBelow ns b = (i : ℕ) → i < length ns → asn_at ns i < b

-- the neighbour at the place has the number
pub record IsAt (ns : List Neighbour) (b i : ℕ) : Type 0 where
  pub in_range : i < length ns
  pub has_asn : asn_at ns i ≡ b

-- the number is no neighbour's, and would stand at the place
pub record IsGapFor (ns : List Neighbour) (b i : ℕ) : Type 0 where
  pub in_range : i ≤ length ns
  pub smaller_before : (j : ℕ) → j < i → asn_at ns j < b
  pub greater_after : (j : ℕ) → i ≤ j → j < length ns → b < asn_at ns j

-- the new list has this relation at b, and at every other number what the old one has
pub record SetsRel (old new : List Neighbour) (b : ℕ) (rel : Option Rel) : Type 0 where
  pub this : rel_in new b ≡ rel
  pub others : (k : ℕ) → k ≢ b → rel_in new k ≡ rel_in old k
