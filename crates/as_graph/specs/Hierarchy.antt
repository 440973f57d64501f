-- Provider cycles and ranks, over any function that says what the second AS is to the first.
use Rattle.std.specs.Prelude.{◌≡◌, ◌⊎◌, ℕ, suc, ◌≤◌, Option, Some, List, [], ◌∷◌, length, ◌+◌, ⊤, slice_index}
use Rattle.net_names.specs.declared.routes.Rel.{Rel}
use Rattle.net_names.specs.declared.routes.Rel.TheVariants.{Customer}
use Rattle.net_names.specs.Numbers.{last_or}
use Rattle.net_names.specs.Ways.{IsWay}
use Rattle.as_graph.specs.Topology.{Topology, relation}

-- each AS of the list is a provider of the next (Gao and Rexford 2001)
abbrev pub IsDescent : (ℕ → ℕ → Option Rel) → List ℕ → Type 0
IsDescent rel [] = ⊤
IsDescent rel (a ∷ []) = ⊤
IsDescent rel (a ∷ b ∷ rest) = (rel a b ≡ Some Customer) × IsDescent rel (b ∷ rest)

-- a chain from an AS: a way from it on which each AS is a provider of the next (Gao and Rexford 2001)
abbrev pub IsChainFrom : (ℕ → ℕ → Option Rel) → ℕ → List ℕ → Type 0
IsChainFrom rel = IsWay (λ a b. rel a b ≡ Some Customer)

-- a provider cycle: at least two distinct ASes, each a provider of the next, and the last a
-- provider of the first (Gao and Rexford 2001: the hierarchy that has none)
pub record IsProviderCycle (rel : ℕ → ℕ → Option Rel) (xs : List ℕ) : Type 0 where
  pub two : 2 ≤ length xs
  pub way : IsChainFrom rel (slice_index xs 0) xs
  pub closes : rel (last_or 0 xs) (slice_index xs 0) ≡ Some Customer

-- no list of ASes is a provider cycle (Gao and Rexford 2001)
abbrev pub HasNoProviderCycle : (ℕ → ℕ → Option Rel) → Type 0
HasNoProviderCycle rel = (xs : List ℕ) → IsProviderCycle rel xs → ⊥

-- the rank of a: one less than the length of the longest chain from a
pub record IsRank (rel : ℕ → ℕ → Option Rel) (a rank : ℕ) : Type 0 where
  pub longest : (xs : List ℕ) × IsChainFrom rel a xs × (length xs ≡ rank + 1)
  pub most : (xs : List ℕ) → IsChainFrom rel a xs → length xs ≤ rank + 1

-- numbers fit at a: a has 0 where it has no customer, else one more than the greatest number of
-- its customers
pub record RankFits (rel : ℕ → ℕ → Option Rel) (rank : ℕ → ℕ) (a : ℕ) : Type 0 where
  pub above : (b : ℕ) → rel a b ≡ Some Customer → suc (rank b) ≤ rank a
  pub reached : (rank a ≡ 0) ⊎ ((b : ℕ) × (rel a b ≡ Some Customer) × (rank a ≡ suc (rank b)))

-- numbers that fit at every AS are the ranks
abbrev pub FittingAreRanks : Type 0
FittingAreRanks = (rel : ℕ → ℕ → Option Rel) (rank : ℕ → ℕ) → ((a : ℕ) → RankFits rel rank a) → (a : ℕ) → IsRank rel a (rank a)

-- in a graph without a provider cycle, ranks fit at every AS
abbrev pub RanksFit : Type 0
RanksFit = (w : Topology) (rank : ℕ → ℕ) → HasNoProviderCycle (relation w) → ((a : ℕ) → IsRank (relation w) a (rank a)) → (a : ℕ) → RankFits (relation w) rank a

-- an AS has at most one rank
abbrev pub OneRank : Type 0
OneRank = (rel : ℕ → ℕ → Option Rel) (a r s : ℕ) → IsRank rel a r → IsRank rel a s → r ≡ s
