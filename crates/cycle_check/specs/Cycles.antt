-- Which provider cycle is given.
use Rattle.std.specs.Prelude.{◌≡◌, ℕ, true, ◌≤◌, Option, List, ◌∷◌, ◌++◌, take, drop, slice_index}
use Rattle.net_names.specs.Numbers.{occurs}
use Rattle.net_names.specs.declared.routes.Rel.{Rel}
use Rattle.net_names.specs.declared.routes.Rel.TheVariants.{Customer}
use Rattle.as_graph.specs.Topology.{Topology, relation}
use Rattle.as_graph.specs.Edits.{with_link, without_link}
use Rattle.as_graph.specs.Hierarchy.{IsProviderCycle}

-- a provider cycle, told from its lowest number on: no AS of it has a lower number than the first (Gao and Rexford 2001, the hierarchy assumption)
pub record IsCycleFromLowest (relation : ℕ → ℕ → Option Rel) (xs : List ℕ) : Type 0 where
  pub cycle : IsProviderCycle relation xs
  pub lowest : (a : ℕ) → occurs a xs ≡ true → slice_index xs 0 ≤ a

-- the list turned round so far that it begins with its lowest number
pub record IsTurned (xs ys : List ℕ) : Type 0 where
  pub turned : (k : ℕ) × (ys ≡ drop k xs ++ take k xs)
  pub lowest : (a : ℕ) → occurs a ys ≡ true → slice_index ys 0 ≤ a

-- what ASes are to each other with a provider link of this pair, in place of any link that it has (RFC 9234, section 4)
abbrev pub with_provider : Topology → ℕ → ℕ → ℕ → ℕ → Option Rel
with_provider g provider customer = relation (with_link g provider customer Customer)

-- what they are to each other without a link of this pair (RFC 9234, section 4)
abbrev pub without_pair : Topology → ℕ → ℕ → ℕ → ℕ → Option Rel
without_pair g a b = relation (without_link g a b)

-- a provider cycle that the new link closes: the provider comes first, then its customer (Gao and Rexford 2001, the hierarchy assumption)
pub record IsClosedBy (g : Topology) (provider customer : ℕ) (xs : List ℕ) : Type 0 where
  pub cycle : IsProviderCycle (with_provider g provider customer) xs
  pub begins : (rest : List ℕ) × (xs ≡ provider ∷ customer ∷ rest)
