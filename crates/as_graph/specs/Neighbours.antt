-- The neighbours of an AS as a list.
use Rattle.std.specs.Prelude.{◌≡◌, ℕ, true, Option, Some, List, map, All}
use Rattle.std.specs.List.Sorted.{IsStrictlyIncreasing}
use Rattle.net_names.specs.declared.routes.Rel.{Rel}
use Rattle.net_names.specs.Numbers.{occurs}
use Rattle.as_graph.specs.declared.neighbour.Neighbour.{Neighbour}

-- the AS numbers of the neighbours
abbrev pub asns : List Neighbour → List ℕ
asns xs = map (λ x. x.asn) xs

-- all neighbours of a, each with what it is to a, in rising order of their numbers
pub record AreNeighbours (relation : ℕ → ℕ → Option Rel) (a : ℕ) (xs : List Neighbour) : Type 0 where
  pub each : All (λ x. relation a x.asn ≡ Some x.rel) xs
  pub complete : (n : ℕ) (r : Rel) → relation a n ≡ Some r → occurs n (asns xs) ≡ true
  pub rising : IsStrictlyIncreasing (asns xs)
