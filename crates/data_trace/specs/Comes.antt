-- ASes come to the places.
use Rattle.std.specs.Prelude.{◌≡◌, ℕ, ◌<◌, ◌≤◌, true, List, length}
use Rattle.net_names.specs.Numbers.{occurs}
use Rattle.as_graph.specs.Topology.{Topology, has}
use Rattle.data_trace.specs.Columns.{name_at}

-- the ASes of the list that are in the graph have places, and those that had places keep them
pub record Comes (g : Topology) (coming old new : List ℕ) : Type 0 where
  pub more : length old ≤ length new
  pub stay : (x : ℕ) → x < length old → name_at new x ≡ name_at old x
  pub among : (x : ℕ) → length old ≤ x → x < length new → occurs (name_at new x) coming ≡ true
  pub in_graph : (x : ℕ) → length old ≤ x → x < length new → has g (name_at new x) ≡ true
  pub there : (a : ℕ) → occurs a coming ≡ true → has g a ≡ true → occurs a new ≡ true
