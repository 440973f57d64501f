-- The rows that a graph keeps, one for each AS that it has met, and the topology that they make.
use Rattle.std.specs.Prelude.{◌≡◌, ◌||◌, ℕ, Bool, false, nat_eq, nat_lt, ◌≤◌, length, if◌then◌else◌, Option, None, is_some, option_map, List, [], ◌∷◌, ◌++◌}
use Rattle.std.specs.Option.{option_map_or}
use Rattle.std.specs.List.Sorted.{IsStrictlyIncreasing}
use Rattle.std.specs.FinMap as map
use Rattle.std.specs.FinSet as set
use Rattle.std.specs.declared.hash.FoldHasher.{FoldHasher}
use Rattle.std.specs.declared.hash.BuildHasherDefault.{BuildHasherDefault}
use Rattle.indexmap.specs.IndexMap.{IndexMap, get, IsUnique}
use Rattle.net_names.specs.declared.routes.Rel.{Rel}
use Rattle.net_names.specs.Links.{LinkMap, converse}
use Rattle.net_names.specs.Numbers.{occurs}
use Rattle.as_graph.specs.declared.neighbour.Neighbour.{Neighbour}
use Rattle.as_graph.specs.declared.row.Row.{Row}
use Rattle.as_graph.specs.Topology.{Topology}
use Rattle.as_graph.specs.Rows.{rel_in}
use Rattle.as_graph.specs.declared.build.TheConstants.{MOST_ASES}
use Rattle.net_names.specs.declared.links.TheConstants.{MOST_LINKS}

-- the rows by the numbers of their ASes
abbrev pub Rows : Type 0
Rows = IndexMap ℕ Row (BuildHasherDefault FoldHasher)

-- the neighbours in the row of an AS; none where it has no row
abbrev pub neighbours_of : Rows → ℕ → List Neighbour
neighbours_of m a = option_map_or (λ (r : Row). r.neighbours.items) (get nat_eq m a) []

-- what b is to a, by the row of a
abbrev pub rel_of : Rows → ℕ → ℕ → Option Rel
rel_of m a b = rel_in (neighbours_of m a) b

-- the row of a has a mark
abbrev pub is_marked : Rows → ℕ → Bool
is_marked m a = option_map_or (λ (r : Row). r.marked) (get nat_eq m a) false

-- a row with a mark or a neighbour is that of an AS of the graph
abbrev pub is_needed : Row → Bool
is_needed r = r.marked || nat_lt 0 (length r.neighbours.items)

-- a has such a row
abbrev pub is_there : Rows → ℕ → Bool
is_there m a = option_map_or is_needed (get nat_eq m a) false

-- the links of a to its higher neighbours
abbrev pub upper_links : ℕ → List Neighbour → List ((ℕ × ℕ) × Rel)
upper_links a [] = []
upper_links a (x ∷ xs) = if nat_lt a x.asn then ((a, x.asn), x.rel) ∷ upper_links a xs else upper_links a xs

-- the links of all rows, each from its lower end
abbrev pub row_links : List (ℕ × Row) → List ((ℕ × ℕ) × Rel)
row_links [] = []
row_links (e ∷ es) = upper_links e.0 e.1.neighbours.items ++ row_links es

-- the numbers of the rows with a mark
abbrev pub marked_rows : List (ℕ × Row) → List ℕ
marked_rows [] = []
marked_rows (e ∷ es) = if e.1.marked then e.0 ∷ marked_rows es else marked_rows es

-- the links that the rows make
abbrev pub links_of : Rows → LinkMap
links_of m = map.from_entries (row_links m.entries)

-- the links and the marks that the rows make
abbrev pub topology_of : Rows → Topology
topology_of m = record { links = links_of m; marked = set.from_list (marked_rows m.entries); room = None }

-- the same, with the room that there is
abbrev pub graph_of : Rows → Option (ℕ × ℕ) → Topology
graph_of m room = record (topology_of m) { room = room }

-- each AS has one row, each link stands at both ends, and joins two ASes
pub record IsGraph (m : Rows) : Type 0 where
  pub unique : IsUnique nat_eq m
  pub alike : (a b : ℕ) → rel_of m b a ≡ option_map converse (rel_of m a b)
  pub apart : (a : ℕ) → rel_of m a a ≡ None

-- the rows make a graph, the order lists its ASes, the count is that of its links, and all are few
pub record IsKept (m : Rows) (order : List ℕ) (count : ℕ) : Type 0 where
  pub graph : IsGraph m
  pub listed : (a : ℕ) → occurs a order ≡ is_there m a
  pub rising : IsStrictlyIncreasing order
  pub few_ases : length order ≤ MOST_ASES
  pub counted : map.len (links_of m) ≡ count
  pub few_links : count ≤ MOST_LINKS

-- the rows have these links and no mark, and each has a neighbour
pub record IsBuilt (m : Rows) (entries : List ((ℕ × ℕ) × Rel)) : Type 0 where
  pub graph : IsGraph m
  pub links : links_of m ≡ map.from_entries entries
  pub unmarked : (a : ℕ) → is_marked m a ≡ false
  pub needed : (a : ℕ) → is_some (get nat_eq m a) ≡ is_there m a
