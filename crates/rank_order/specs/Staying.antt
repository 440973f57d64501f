-- Ranks that stay where the link of two ASes is edited.
use Rattle.std.specs.Prelude.{◌≡◌, ◌≢◌, ◌<◌, ℕ, suc, Option, Some}
use Rattle.net_names.specs.declared.routes.Rel.{Rel}
use Rattle.net_names.specs.declared.routes.Rel.TheVariants.{Customer, Provider}
use Rattle.as_graph.specs.Hierarchy.{HasNoProviderCycle, IsRank}
use Rattle.as_graph.specs.Topology.{Topology, relation}

-- the ranks x and y of two ASes bear that the second, so far `old` to the first, becomes `new`: the provider's is above the customer's, and so far it was not just one more
pub record StayWith (x y : ℕ) (old new : Option Rel) : Type 0 where
  pub above_customer : new ≡ Some Customer → y < x
  pub below_provider : new ≡ Some Provider → x < y
  pub more_than_customer : old ≡ Some Customer → x ≢ suc y
  pub more_than_self : old ≡ Some Provider → y ≢ suc x

-- ranks stay where only the link of a and b is edited, and the ranks of both bear it (Gao and Rexford 2001, the hierarchy)
abbrev pub RanksStay : Type 0
RanksStay =
    (old new : Topology) (rank : ℕ → ℕ) (a b : ℕ) → HasNoProviderCycle (relation old) → ((x : ℕ) → IsRank (relation old) x (rank x)) →
    ((x n : ℕ) → x ≢ a → x ≢ b → relation new x n ≡ relation old x n) → StayWith (rank a) (rank b) (relation old a b) (relation new a b) →
    (x : ℕ) → IsRank (relation new) x (rank x)
