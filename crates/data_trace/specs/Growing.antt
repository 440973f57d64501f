-- The columns and the lists of a watch get room.
use Rattle.std.specs.Prelude.{◌≡◌, ℕ, ◌≤◌, ◌<◌, Bool, None, [], ◌∷◌, ◌++◌, length, vec_capacity}
use Rattle.data_trace.specs.declared.kinds.End.{End}
use Rattle.data_trace.specs.declared.columns.Columns.{Columns}
use Rattle.data_trace.specs.declared.keeping.Lists.{Lists}
use Rattle.data_trace.specs.Keeping.{HasRoom}
use Rattle.data_trace.specs.Sums.{room_of, total}

-- each column has n entries
pub record AreLong (n : ℕ) (columns : Columns) : Type 0 where
  pub hops : length columns.hops.items ≡ n
  pub marks : length columns.marks.items ≡ n
  pub groups : length columns.groups.items ≡ n

-- there is room for n places in each column, and for n cells in the sums
pub record HaveRoom (n : ℕ) (columns : Columns) : Type 0 where
  pub hops : n ≤ vec_capacity columns.hops
  pub marks : n ≤ vec_capacity columns.marks
  pub groups : n ≤ vec_capacity columns.groups
  pub sums : n ≤ room_of columns.sums

-- the columns are the same, and have no less room
pub record StayColumns (old new : Columns) : Type 0 where
  pub hops : new.hops.items ≡ old.hops.items
  pub marks : new.marks.items ≡ old.marks.items
  pub groups : new.groups.items ≡ old.groups.items
  pub sums : (p : End → Bool → ℕ → Bool) → total p new.sums ≡ total p old.sums
  pub hops_room : vec_capacity old.hops ≤ vec_capacity new.hops
  pub marks_room : vec_capacity old.marks ≤ vec_capacity new.marks
  pub groups_room : vec_capacity old.groups ≤ vec_capacity new.groups
  pub sums_room : room_of old.sums ≤ room_of new.sums

-- there are the links of n places
pub record AreLinked (n : ℕ) (l : Lists) : Type 0 where
  pub first : length l.first.items ≡ n
  pub before : length l.before.items ≡ n
  pub after : length l.after.items ≡ n

-- the links are the same, and the lists have no less room
pub record StayLinks (old new : Lists) : Type 0 where
  pub first : new.first.items ≡ old.first.items
  pub before : new.before.items ≡ old.before.items
  pub after : new.after.items ≡ old.after.items
  pub room : (n : ℕ) → HasRoom n old → HasRoom n new

-- there is room for the links of a further place
pub record HasRoomForOne (l : Lists) : Type 0 where
  pub first : length l.first.items < vec_capacity l.first
  pub before : length l.before.items < vec_capacity l.before
  pub after : length l.after.items < vec_capacity l.after

-- a place that stands in no list comes to the end, and the lists have no less room
pub record AddsPlace (old new : Lists) : Type 0 where
  pub first : new.first.items ≡ old.first.items ++ None ∷ []
  pub before : new.before.items ≡ old.before.items ++ None ∷ []
  pub after : new.after.items ≡ old.after.items ++ None ∷ []
  pub room : (n : ℕ) → HasRoom n old → HasRoom n new
