-- A graph of ASes: its links, its marked ASes, and which ASes it has.
use Rattle.std.specs.Prelude.{ℕ, Bool, Option, None, List, [], ◌∷◌, ◌++◌, refl}
use Rattle.std.specs.Coded.{Coded, code_by, coded×, coded_ℕ, coded_option}
use Rattle.std.specs.Ordering.{nat_cmp}
use Rattle.std.specs.FinMap as map
use Rattle.std.specs.FinSet as set
use Rattle.std.specs.List.{flat_map}
use Rattle.net_names.specs.declared.routes.Rel.{Rel}
use Rattle.net_names.specs.Links.{LinkMap, link_map_code, between}
use Rattle.net_names.specs.Numbers.{occurs}

-- the links, and the marked ASes, which are there without a link too; and the pair of ASes for which
-- there is room without memory, if there is any
pub record Topology : Type 0 where
  pub links : LinkMap
  pub marked : set.FinSet nat_cmp
  pub room : Option (ℕ × ℕ)

-- stored as its fields
abbrev pub topology_code : Coded Topology
topology_code =
    code_by (LinkMap × (set.FinSet nat_cmp × Option (ℕ × ℕ))) (coded× link_map_code (coded× (set.code coded_ℕ) (coded_option (coded× coded_ℕ coded_ℕ)))) (λ g. (g.links, (g.marked, g.room)))
    (λ p. record { links = p.0; marked = p.1.0; room = p.1.1 }) (λ _. refl)

-- what b is to a: customer, peer, provider or nothing (RFC 9234, section 4)
abbrev pub relation : Topology → ℕ → ℕ → Option Rel
relation g a b = between g.links a b

-- the marked ASes and the ends of links, some twice
abbrev pub ases : Topology → List ℕ
ases g = set.items g.marked ++ flat_map (λ e. e.0.0 ∷ e.0.1 ∷ []) (map.entries g.links)

-- a is an AS of the graph: it is marked, or an end of a link
abbrev pub has : Topology → ℕ → Bool
has g a = occurs a (ases g)

-- how many ASes the graph has, each counted once
abbrev pub as_count : Topology → ℕ
as_count g = set.len (set.from_list {R = nat_cmp} (ases g))

-- the graph with these links, no marks and no room
abbrev pub unmarked : LinkMap → Topology
unmarked links = record { links = links; marked = set.empty; room = None }

-- the graph with a mark on a, and all else as before
abbrev pub with_mark : Topology → ℕ → Topology
with_mark g a = record g { marked = set.insert g.marked a }
