-- Printed tables: a row for each AS.
use Rattle.std.specs.Prelude.{ℕ, List, ◌∷◌, decimal, map}
use Rattle.std.specs.List.{flat_map}
use Rattle.std.specs.Ordering.{nat_cmp}
use Rattle.std.specs.FinMap as fin
use Rattle.as_graph.specs.Topology.{Topology, ases}

-- further numbers of a list, each after a space (own format)
abbrev pub more_numbers : List ℕ → List ℕ
more_numbers ns = flat_map (λ n. 32 ∷ decimal n) ns

-- a table: the rows that f makes, one for each AS of the graph, in rising number (own format)
abbrev pub table : Topology → (ℕ → List ℕ) → List ℕ
table g f = flat_map f (fin.keys (fin.from_entries {R = nat_cmp} (map (λ a. (a, tt {0})) (ases g))))
