-- The pair of ASes for which a graph has room: its link, and marks on its ASes, take no memory.
use Rattle.std.specs.Prelude.{ℕ, Bool, false, ◌&&◌, ◌||◌, ◌==◌, if◌then◌else◌, Option, Some, None}
use Rattle.as_graph.specs.Topology.{Topology}

-- the room is for a pair with this AS
abbrev pub is_room_with : Option (ℕ × ℕ) → ℕ → Bool
is_room_with None a = false
is_room_with (Some p) a = p.0 == a || p.1 == a

-- the room is for this pair, in either order
abbrev pub is_room_for : Option (ℕ × ℕ) → ℕ → ℕ → Bool
is_room_for None a b = false
is_room_for (Some p) a b = (p.0 == a && p.1 == b) || (p.0 == b && p.1 == a)

-- the graph with room for this pair
abbrev pub with_room : Topology → ℕ → ℕ → Topology
with_room w a b = record w { room = Some (a, b) }

-- the graph without room
abbrev pub without_room : Topology → Topology
without_room w = record w { room = None }

-- the graph without room that is not for this AS
abbrev pub only_room_with : Topology → ℕ → Topology
only_room_with w a = record w { room = if is_room_with w.room a then w.room else None }

-- the graph without room that is not for this pair
abbrev pub only_room_for : Topology → ℕ → ℕ → Topology
only_room_for w a b = record w { room = if is_room_for w.room a b then w.room else None }
