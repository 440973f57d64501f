-- The ranks of a world's ASes, or why there are none.
use Rattle.std.specs.Prelude.{◌≡◌, ℕ, ◌==◌, if◌then◌else◌, Option, None, Some, List, [], ◌∷◌, length, map, unwrap_or}
use Rattle.std.specs.List.Sorted.{IsStrictlyIncreasing}
use Rattle.net_names.specs.Numbers.{occurs}
use Rattle.as_graph.specs.Topology.{Topology, relation, has}
use Rattle.as_graph.specs.Hierarchy.{HasNoProviderCycle, IsRank}
use Rattle.cycle_check.specs.declared.ranking.RankedAs.{RankedAs}
use Rattle.cycle_check.specs.declared.ranking.Ranked.{Ranked}
use Rattle.cycle_check.specs.declared.ranking.Ranking.{Ranking}
use Rattle.cycle_check.specs.declared.ranking.Ranking.TheVariants.{Ranks, Cycle}
use Rattle.cycle_check.specs.Counting.{ArePlacesByRank}
use Rattle.cycle_check.specs.Cycles.{IsCycleFromLowest}

-- the rank that the list tells of an AS, if it tells one
abbrev pub rank_told : List RankedAs → ℕ → Option ℕ
rank_told [] a = None
rank_told (x ∷ xs) a = if x.asn == a then Some x.rank else rank_told xs a

-- the rank that the list gives to an AS, 0 where it tells none
abbrev pub rank_in : List RankedAs → ℕ → ℕ
rank_in xs a = unwrap_or (rank_told xs a) 0

-- the numbers of the ASes in the list
abbrev pub numbers_of : List RankedAs → List ℕ
numbers_of xs = map (λ x. x.asn) xs

-- the ranks in the list
abbrev pub ranks_of : List RankedAs → List ℕ
ranks_of xs = map (λ x. x.rank) xs

-- just the ASes of the world in rising number, each with its rank
pub record AreRanks (g : Topology) (xs : List RankedAs) : Type 0 where
  pub listed : (a : ℕ) → occurs a (numbers_of xs) ≡ has g a
  pub rising : IsStrictlyIncreasing (numbers_of xs)
  pub ranks : (a : ℕ) → IsRank (relation g) a (rank_in xs a)

-- the ASes with their ranks, and their places in this list by rising rank
pub record AreRanked (g : Topology) (r : Ranked) : Type 0 where
  pub ases : AreRanks g r.ases.items
  pub by_rank : ArePlacesByRank (length r.ases.items) (ranks_of r.ases.items) r.order.items

-- the ranks where there is no provider cycle, and else such a cycle (Gao and Rexford 2001, the hierarchy assumption)
abbrev pub IsRanking : Topology → Ranking → Type 0
IsRanking g (Ranks ranks) = HasNoProviderCycle (relation g) × AreRanked g ranks
IsRanking g (Cycle cycle) = IsCycleFromLowest (relation g) cycle
