-- The ranks of places, or a provider cycle.
use Rattle.std.specs.Prelude.{◌≡◌, ℕ, nat_lt, List, length, slice_index}
use Rattle.std.specs.List.Sorted.{IsNonDecreasingBy}
use Rattle.net_names.specs.Numbers.{occurs, IsDistinct}
use Rattle.as_graph.specs.Hierarchy.{RankFits}
use Rattle.cycle_check.specs.Rows.{count_of, relation}
use Rattle.cycle_check.specs.Cycles.{IsCycleFromLowest}
use Rattle.cycle_check.specs.declared.counting.Counted.{Counted}
use Rattle.cycle_check.specs.declared.counting.Counted.TheVariants.{Ranks, Cycle}

-- each number below a bound once, by rising rank
pub record ArePlacesByRank (n : ℕ) (ranks order : List ℕ) : Type 0 where
  pub complete : (a : ℕ) → occurs a order ≡ nat_lt a n
  pub apart : IsDistinct order
  pub rising : IsNonDecreasingBy (slice_index ranks) order

-- numbers that fit at each place, and the places by rising rank
pub record ArePlaceRanks (starts items ranks order : List ℕ) : Type 0 where
  pub fits : (a : ℕ) → RankFits (relation starts items) (slice_index ranks) a
  pub each : length ranks ≡ count_of starts
  pub by_rank : ArePlacesByRank (count_of starts) ranks order

-- the ranks where there is no provider cycle, and else such a cycle (Gao and Rexford 2001, the hierarchy assumption)
abbrev pub IsCounted : List ℕ → List ℕ → Counted → Type 0
IsCounted starts items (Ranks ranks order) = ArePlaceRanks starts items ranks.items order.items
IsCounted starts items (Cycle cycle) = IsCycleFromLowest (relation starts items) cycle.items
