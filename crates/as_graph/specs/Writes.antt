-- What a write of the rows changes, and the room that they have for more neighbours.
use Rattle.std.specs.Prelude.{◌≡◌, ◌≢◌, ℕ, ◌+◌, ◌≤◌, nat_le, Bool, true, false, nat_eq, length, Option, Some, None}
use Rattle.std.specs.Option.{option_map_or}
use Rattle.indexmap.specs.IndexMap.{get, IsUnique, index_map_len}
use Rattle.net_names.specs.declared.routes.Rel.{Rel}
use Rattle.as_graph.specs.declared.row.Row.{Row}
use Rattle.as_graph.specs.Graphs.{Rows, neighbours_of, rel_of, is_marked, IsGraph}

-- one more neighbour in the row takes no memory
abbrev pub has_room : Row → Bool
has_room r = nat_le (length r.neighbours.items + 1) r.neighbours.capacity

-- a has a row, with such room
abbrev pub has_room_at : Rows → ℕ → Bool
has_room_at m a = option_map_or has_room (get nat_eq m a) false

-- both rows of the pair have such room, or its link
abbrev pub HasRoomFor : Rows → ℕ → ℕ → Type 0
HasRoomFor m a b = rel_of m a b ≡ None → (has_room_at m a ≡ true) × (has_room_at m b ≡ true)

-- so many places of the order are for all rows, and there is the room that is promised
pub record IsRoomy (m : Rows) (places : ℕ) (room : Option (ℕ × ℕ)) : Type 0 where
  pub ordered : index_map_len m ≤ places
  pub paired : (a b : ℕ) → room ≡ Some (a, b) → HasRoomFor m a b

-- each row tells what it told, and has the room that it had
pub record KeepsRows (old new : Rows) : Type 0 where
  pub unique : IsUnique nat_eq new
  pub neighbours : (j : ℕ) → neighbours_of new j ≡ neighbours_of old j
  pub marks : (j : ℕ) → is_marked new j ≡ is_marked old j
  pub rooms : (j : ℕ) → has_room_at old j ≡ true → has_room_at new j ≡ true

-- in the row of a, the neighbour b is this or is not there, and nothing else has changed
pub record SetsEnd (old new : Rows) (a b : ℕ) (rel : Option Rel) : Type 0 where
  pub unique : IsUnique nat_eq new
  pub count : index_map_len new ≡ index_map_len old
  pub this : rel_of new a b ≡ rel
  pub others : (k : ℕ) → k ≢ b → rel_of new a k ≡ rel_of old a k
  pub mark : is_marked new a ≡ is_marked old a
  pub rows : (j : ℕ) → j ≢ a → get nat_eq new j ≡ get nat_eq old j

-- the pair has this link or none, and nothing else has changed
pub record SetsLink (old new : Rows) (a b : ℕ) (rel : Option Rel) : Type 0 where
  pub graph : IsGraph new
  pub count : index_map_len new ≡ index_map_len old
  pub this : rel_of new a b ≡ rel
  pub others : (j k : ℕ) → ((j ≡ a) × (k ≡ b) → ⊥) → ((j ≡ b) × (k ≡ a) → ⊥) → rel_of new j k ≡ rel_of old j k
  pub marks : (j : ℕ) → is_marked new j ≡ is_marked old j
  pub rows : (j : ℕ) → j ≢ a → j ≢ b → get nat_eq new j ≡ get nat_eq old j

-- a has this mark or none, and nothing else has changed
pub record SetsMark (old new : Rows) (a : ℕ) (mark : Bool) : Type 0 where
  pub unique : IsUnique nat_eq new
  pub count : index_map_len new ≡ index_map_len old
  pub this : is_marked new a ≡ mark
  pub others : (j : ℕ) → j ≢ a → is_marked new j ≡ is_marked old j
  pub neighbours : (j : ℕ) → neighbours_of new j ≡ neighbours_of old j
  pub rooms : (j : ℕ) → has_room_at new j ≡ has_room_at old j
