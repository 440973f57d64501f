-- The columns of a watch, and the rows that they make.
use Rattle.std.specs.Prelude.{◌≡◌, ℕ, ◌<◌, ◌↔◌, Bool, true, false, IsTrue, if◌then◌else◌, nat_eq, List, length, map, filter, slice_index, slice_index_or}
use Rattle.std.specs.List.{range_with_len, IsDistinct}
use Rattle.net_names.specs.declared.routes.Rel.{Rel}
use Rattle.net_names.specs.declared.routes.Rel.TheVariants as rel
use Rattle.net_names.specs.Numbers.{occurs}
use Rattle.as_graph.specs.Topology.{Topology, relation, has}
use Rattle.data_trace.specs.declared.kinds.Hop.{Hop}
use Rattle.data_trace.specs.declared.kinds.Hop.TheVariants as hop
use Rattle.data_trace.specs.declared.kinds.End.{End}
use Rattle.data_trace.specs.declared.kinds.End.TheVariants as the_end
use Rattle.data_trace.specs.declared.places.PlaceHop.{PlaceHop}
use Rattle.data_trace.specs.declared.places.PlaceHop.TheVariants as place_hop
use Rattle.data_trace.specs.declared.places.PlaceEnd.{PlaceEnd}
use Rattle.data_trace.specs.declared.places.PlaceEnd.TheVariants as place_end
use Rattle.data_trace.specs.declared.places.Mark.{Mark}
use Rattle.data_trace.specs.declared.places.Mark.TheVariants as mark
use Rattle.data_trace.specs.declared.places.Standing.{Standing}
use Rattle.data_trace.specs.declared.places.Standing.TheVariants as standing
use Rattle.data_trace.specs.declared.places.Group.{Group}
use Rattle.data_trace.specs.Marks.{hop_at, mark_of, IsWithin}
use Rattle.data_trace.specs.Watches.{Row, IsStub}

-- the AS at a place
abbrev pub name_at : List ℕ → ℕ → ℕ
name_at ases x = slice_index ases x

-- the next hop, with the AS in place of its place
abbrev pub named : List ℕ → PlaceHop → Hop
named ases place_hop.NoRoute = hop.NoRoute
named ases place_hop.Here = hop.Here
named ases (place_hop.To y) = hop.To (name_at ases y)

-- the end, with the AS in place of its place
abbrev pub named_end : List ℕ → PlaceEnd → End
named_end ases place_end.NoRoute = the_end.NoRoute
named_end ases place_end.Loop = the_end.Loop
named_end ases (place_end.At y) = the_end.At (name_at ases y)

-- the end that a mark tells; a place without a known end does not come up
abbrev pub told : List ℕ → Mark → End
told ases mark.Unknown = the_end.NoRoute
told ases mark.Walked = the_end.NoRoute
told ases (mark.Known e) = named_end ases e

-- whether the AS of a place is there
abbrev pub is_here : Standing → Bool
is_here standing.Gone = false
is_here standing.Stub = true
is_here standing.Transit = true

-- whether the AS of a place has no customers
abbrev pub is_stub : Standing → Bool
is_stub standing.Gone = false
is_stub standing.Stub = true
is_stub standing.Transit = false

-- the groups of an AS that is gone
abbrev pub gone : Group
gone = record { standing = standing.Gone; label = 0 }

-- the groups at a place
abbrev pub group_at : List Group → ℕ → Group
group_at groups x = slice_index_or groups x gone

-- whether the AS of the place is there
abbrev pub here_at : List Group → ℕ → Bool
here_at groups x = is_here (group_at groups x).standing

-- the row of a place
abbrev pub row : List ℕ → List PlaceHop → List Mark → List Group → ℕ → Row
row ases hops marks groups x =
    record { asn = name_at ases x; next = named ases (hop_at hops x); end = told ases (mark_of marks x); stub = is_stub (group_at groups x).standing; label = (group_at groups x).label }

-- the rows of the places whose ASes are there
abbrev pub rows : List ℕ → List PlaceHop → List Mark → List Group → List Row
rows ases hops marks groups = map (row ases hops marks groups) (filter (here_at groups) (range_with_len 0 (length ases)))

-- the list has the ASes of the graph, and no AS twice
pub record AreAses (g : Topology) (ases : List ℕ) : Type 0 where
  pub listed : (a : ℕ) → has g a ≡ true → occurs a ases ≡ true
  pub apart : IsDistinct nat_eq ases

-- the next hop, if it is an AS, is one of the list
abbrev pub IsAmong : List ℕ → Hop → Type 0
IsAmong ases h = (b : ℕ) → h ≡ hop.To b → occurs b ases ≡ true

-- where an AS sends, if it is in the graph; else it has no route
abbrev pub fresh : Topology → (ℕ → Hop) → ℕ → Hop
fresh g next a = if has g a then next a else hop.NoRoute

-- each place has the next hop of its AS
pub record AreHops (next : ℕ → Hop) (ases : List ℕ) (hops : List PlaceHop) : Type 0 where
  pub len : length hops ≡ length ases
  pub within : IsWithin hops
  pub follows : (x : ℕ) → x < length ases → named ases (hop_at hops x) ≡ next (name_at ases x)

-- whether it is a customer
abbrev pub is_customer : Rel → Bool
is_customer rel.Customer = true
is_customer rel.Peer = false
is_customer rel.Provider = false

-- the groups of an AS, of which nothing is said where it is not in the graph
pub record IsGroup (g : Topology) (label : ℕ → ℕ) (a : ℕ) (group : Group) : Type 0 where
  pub here : is_here group.standing ≡ has g a
  pub stub : has g a ≡ true → IsTrue (is_stub group.standing) ↔ IsStub (relation g) a
  pub label_is : has g a ≡ true → group.label ≡ label a

-- each place has the groups of its AS
pub record AreGroups (g : Topology) (label : ℕ → ℕ) (ases : List ℕ) (groups : List Group) : Type 0 where
  pub len : length groups ≡ length ases
  pub each : (x : ℕ) → x < length ases → IsGroup g label (name_at ases x) (group_at groups x)
