-- Places in a list of numbers that rise.
use Rattle.std.specs.Prelude.{ℕ, ◌<◌, ◌≤◌, List, length, slice_index, Option}
use Rattle.as_graph.specs.Following.{IsAbove}

-- the numbers above the bound begin at the place
pub record IsStart (ns : List ℕ) (bound : Option ℕ) (at : ℕ) : Type 0 where
  pub below : (j : ℕ) → j < at → j < length ns → IsAbove bound (slice_index ns j) → ⊥
  pub from : (j : ℕ) → at ≤ j → j < length ns → IsAbove bound (slice_index ns j)
