-- What shows, AS by AS, that new numbers fit.
use Rattle.std.specs.Prelude.{◌≡◌, ◌≢◌, ◌⊎◌, ℕ, suc, max, ◌<◌, ◌≤◌, Bool, true, Option, Some, List, length, slice_index_or}
use Rattle.net_names.specs.declared.routes.Rel.{Rel}
use Rattle.net_names.specs.declared.routes.Rel.TheVariants.{Customer, Peer, Provider}
use Rattle.as_graph.specs.declared.neighbour.Neighbour.{Neighbour}
use Rattle.as_graph.specs.Rows.{blank}
use Rattle.as_graph.specs.Topology.{Topology, relation as relation_of}
use Rattle.as_graph.specs.Hierarchy.{RankFits}
use Rattle.rank_order.specs.declared.plan.RankPlan.{RankPlan}
use Rattle.rank_order.specs.Ranks.{KeptRanks, rank_at}
use Rattle.rank_order.specs.Plans.{is_numbered, rank_after}

-- the neighbour at a place of a list
abbrev pub neighbour_at : List Neighbour → ℕ → Neighbour
neighbour_at ns k = slice_index_or ns k blank

-- the greater of a number and one more than that of a neighbour, if the neighbour is a customer
abbrev pub grown : Rel → ℕ → ℕ → ℕ
grown Customer k n = max n (suc k)
grown Peer k n = n
grown Provider k n = n

-- the neighbour at the place is a customer of this number
pub record IsCustomerAt (number : ℕ → ℕ) (ns : List Neighbour) (k n : ℕ) : Type 0 where
  pub inside : k < length ns
  pub customer : (neighbour_at ns k).rel ≡ Customer
  pub number_is : number (neighbour_at ns k).asn ≡ n

-- n is 0, or one more than the number of a customer in the list, and above those of the customers among the first i
pub record IsNumberOver (number : ℕ → ℕ) (ns : List Neighbour) (i n : ℕ) : Type 0 where
  pub above : (k : ℕ) → k < i → (neighbour_at ns k).rel ≡ Customer → suc (number (neighbour_at ns k).asn) ≤ n
  pub reached : (n ≡ 0) ⊎ ((k : ℕ) × (m : ℕ) × IsCustomerAt number ns k m × (n ≡ suc m))

-- where the number of a customer of p changes from `before` to `later`, p is numbered anew too, or its old number is above
-- the new one and was not one more than the old one
abbrev pub Bears : (ℕ → Bool) → (ℕ → ℕ) → ℕ → ℕ → ℕ → Type 0
Bears numbered old before later p = (numbered p ≡ true) ⊎ ((suc later ≤ old p) × (suc before ≢ old p))

-- each provider among the first i of the list bears the change
abbrev pub AllBear : (ℕ → Bool) → (ℕ → ℕ) → ℕ → ℕ → List Neighbour → ℕ → Type 0
AllBear numbered old before later ns i = (k : ℕ) → k < i → (neighbour_at ns k).rel ≡ Provider → Bears numbered old before later (neighbour_at ns k).asn

-- the new number fits at a, and each provider of a bears its change, if there is one
pub record IsMended (relation : ℕ → ℕ → Option Rel) (numbered : ℕ → Bool) (old new : ℕ → ℕ) (a : ℕ) : Type 0 where
  pub fits : RankFits relation new a
  pub providers : (new a ≡ old a) ⊎ ((p : ℕ) → relation p a ≡ Some Customer → Bears numbered old (old a) (new a) p)

-- the number that the plan gives to a fits in the graph, and each provider of a bears its change
abbrev pub MendsAt : Topology → KeptRanks → RankPlan → ℕ → Type 0
MendsAt g ranks p a = IsMended (relation_of g) (is_numbered p) (rank_at ranks) (rank_after ranks p) a
