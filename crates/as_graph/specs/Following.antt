-- The AS that follows in rising order.
use Rattle.std.specs.Prelude.{◌≡◌, ℕ, true, ◌<◌, ◌≤◌, ⊤, Option, None, Some}
use Rattle.as_graph.specs.Topology.{Topology, has}

-- the number is above the bound; each is where there is no bound
abbrev pub IsAbove : Option ℕ → ℕ → Type 0
IsAbove None k = ⊤
IsAbove (Some a) k = a < k

-- b is the least AS of the graph above the bound
pub record IsNext (g : Topology) (bound : Option ℕ) (b : ℕ) : Type 0 where
  pub among : has g b ≡ true
  pub above : IsAbove bound b
  pub least : (k : ℕ) → has g k ≡ true → IsAbove bound k → b ≤ k
