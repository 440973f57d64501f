-- A region of cells: the path of a cell, who needs a cell, and when a region is sound.
-- Paths that share their ends are the nodes of a forest whose edges point towards the root.
use Rattle.std.specs.Prelude.{◌≡◌, ◌≢◌, ℕ, suc, zero, ◌+◌, ◌-◌, ◌<◌, ◌≤◌, Bool, ◌&&◌, ◌==◌, nat_lt, List, [], ◌∷◌, length, slice_index_or, slice_set, count_by, Option, None, Some, if◌then◌else◌}
use Rattle.path_pool.specs.declared.pool.Cell.{Cell}
use Rattle.path_pool.specs.declared.pool.TheConstants.{MOST_COUNT}
use Rattle.path_pool.specs.declared.path_id.PathId.{PathId}

-- What is read past the last cell: a cell that nothing needs.
abbrev pub blank : Cell
blank = record { head = 0; tail = 0; len = 0; count = 0; last = 0 }

-- The cell at a place.
abbrev pub cell_at : List Cell → ℕ → Cell
cell_at cells i = slice_index_or cells i blank

-- The cell of a new path's first AS, with one hold.
abbrev pub first_cell : ℕ → ℕ → ℕ → ℕ → Cell
first_cell head tail len last = record { head = head; tail = tail; len = len; count = 1; last = last }

-- A cell that belongs to no path, from which so many such cells hang together.
abbrev pub dead_cell : ℕ → ℕ → ℕ → Cell
dead_cell head next len = record { head = head; tail = next; len = len; count = 0; last = head }

-- The cells, of which the one at a place has this count.
abbrev pub with_count : List Cell → ℕ → ℕ → List Cell
with_count cells i count = slice_set cells i (record (cell_at cells i) { count = count })

-- The ASes of n cells, from the place i on, along the tails.
abbrev pub walk : List Cell → ℕ → ℕ → List ℕ
walk cells zero i = []
walk cells (suc n) i = (cell_at cells i).head ∷ walk cells n (cell_at cells i).tail

-- The path of a cell: the ASes of as many cells as the cell says that it has.
abbrev pub list_of : List Cell → ℕ → List ℕ
list_of cells i = walk cells (cell_at cells i).len i

-- A cell is live where its count is above 0.
abbrev pub IsLive : List Cell → ℕ → Type 0
IsLive cells i = 0 < (cell_at cells i).count

-- Whether a cell is live.
abbrev pub is_live : Cell → Bool
is_live c = nat_lt 0 c.count

-- Whether a cell is live and i is its tail.
abbrev pub is_above : ℕ → Cell → Bool
is_above i c = (nat_lt 0 c.count && nat_lt 1 c.len) && (c.tail == i)

-- How many live cells have i as their tail.
abbrev pub cells_above : List Cell → ℕ → ℕ
cells_above cells i = count_by (is_above i) cells

-- The outside holds of a cell: what of its count no cell accounts for.
abbrev pub holds_of : List Cell → ℕ → ℕ
holds_of cells i = (cell_at cells i).count - cells_above cells i

-- How many cells are live.
abbrev pub live_count : List Cell → ℕ
live_count cells = count_by is_live cells

-- The tail that a cell has, where it isn't the last of its path.
abbrev pub tail_of : Cell → Option PathId
tail_of c = if nat_lt 1 c.len then Some (record { 0 = c.tail }) else None

-- The path of a tail that may be missing.
abbrev pub tail_list : List Cell → Option PathId → List ℕ
tail_list cells None = []
tail_list cells (Some t) = list_of cells t.0

-- A cell of more than one AS has a tail, which is one AS shorter, and live exactly where the cell is. A live cell of one
-- AS has that AS as its last, and a longer one the last of its tail.
pub record IsLinked (cells : List Cell) (i : ℕ) : Type 0 where
  pub some : 1 ≤ (cell_at cells i).len
  pub inside : 1 < (cell_at cells i).len → (cell_at cells i).tail < length cells
  pub shorter : 1 < (cell_at cells i).len → (cell_at cells (cell_at cells i).tail).len + 1 ≡ (cell_at cells i).len
  pub both_live : 1 < (cell_at cells i).len → 0 < (cell_at cells i).count → 0 < (cell_at cells (cell_at cells i).tail).count
  pub both_dead : 1 < (cell_at cells i).len → (cell_at cells i).count ≡ 0 → (cell_at cells (cell_at cells i).tail).count ≡ 0
  pub single_last : 0 < (cell_at cells i).count → (cell_at cells i).len ≡ 1 → (cell_at cells i).last ≡ (cell_at cells i).head
  pub longer_last : 0 < (cell_at cells i).count → 1 < (cell_at cells i).len → (cell_at cells i).last ≡ (cell_at cells (cell_at cells i).tail).last

-- A region is sound where each cell is linked and counts at least the live cells over it, the cells that are not live
-- hang together from `free` on (no two of them at the same length, and `dead` is that of the first), live and dead
-- cells are all cells, and these are no more than the limit.
pub record IsRegion (cells : List Cell) (free dead limit : ℕ) : Type 0 where
  pub linked : (i : ℕ) → i < length cells → IsLinked cells i
  pub counted : (i : ℕ) → cells_above cells i ≤ (cell_at cells i).count
  pub first_inside : 0 < dead → free < length cells
  pub first_dead : 0 < dead → (cell_at cells free).count ≡ 0
  pub first_len : 0 < dead → (cell_at cells free).len ≡ dead
  pub dead_short : (i : ℕ) → i < length cells → (cell_at cells i).count ≡ 0 → (cell_at cells i).len ≤ dead
  pub dead_apart : (i j : ℕ) → i < length cells → j < length cells → (cell_at cells i).count ≡ 0 → (cell_at cells j).count ≡ 0 → (cell_at cells i).len ≡ (cell_at cells j).len → i ≡ j
  pub all_counted : live_count cells + dead ≡ length cells
  pub within : length cells ≤ limit
  pub limited : limit < MOST_COUNT

-- A cell can be put over its tail, where it has one: the tail is live, one AS shorter, ends with the same AS, and has a
-- hold left for it.
pub record CanFollow (xs : List Cell) (y : Cell) : Type 0 where
  pub held : y.count ≡ 1
  pub some : 1 ≤ y.len
  pub live : 1 < y.len → IsLive xs y.tail
  pub free_hold : 1 < y.len → cells_above xs y.tail < (cell_at xs y.tail).count
  pub shorter : 1 < y.len → (cell_at xs y.tail).len + 1 ≡ y.len
  pub single_last : y.len ≡ 1 → y.last ≡ y.head
  pub longer_last : 1 < y.len → y.last ≡ (cell_at xs y.tail).last

-- A new path is there, with one outside hold, no count rises by more than one, and nothing else has changed.
pub record GainsCell (old new : List Cell) (id : ℕ) (numbers : List ℕ) : Type 0 where
  pub fresh : (cell_at old id).count ≡ 0
  pub live : IsLive new id
  pub list : list_of new id ≡ numbers
  pub one_hold : holds_of new id ≡ 1
  pub other_holds : (k : ℕ) → k ≢ id → holds_of new k ≡ holds_of old k
  pub counts : (k : ℕ) → (cell_at new k).count ≤ (cell_at old k).count + 1
  pub stays_live : (k : ℕ) → IsLive old k → IsLive new k
  pub was_live : (k : ℕ) → k ≢ id → IsLive new k → IsLive old k
  pub lists : (k : ℕ) → IsLive old k → list_of new k ≡ list_of old k

-- A new path is there, over an old one that has passed one outside hold on to it, and nothing else has changed.
pub record PassesHold (old new : List Cell) (from id : ℕ) (numbers : List ℕ) : Type 0 where
  pub fresh : (cell_at old id).count ≡ 0
  pub live : IsLive new id
  pub list : list_of new id ≡ numbers
  pub one_hold : holds_of new id ≡ 1
  pub one_less : holds_of new from + 1 ≡ holds_of old from
  pub other_holds : (k : ℕ) → k ≢ id → k ≢ from → holds_of new k ≡ holds_of old k
  pub one_count : (cell_at new id).count ≡ 1
  pub counts : (k : ℕ) → k ≢ id → (cell_at new k).count ≡ (cell_at old k).count
  pub stays_live : (k : ℕ) → IsLive old k → IsLive new k
  pub was_live : (k : ℕ) → k ≢ id → IsLive new k → IsLive old k
  pub lists : (k : ℕ) → IsLive old k → list_of new k ≡ list_of old k

-- A new path is there, of new cells and with one outside hold, no count rises by more than one, and each other hold and
-- path is as before.
pub record GainsCells (old new : List Cell) (id : ℕ) (numbers : List ℕ) : Type 0 where
  pub fresh : (cell_at old id).count ≡ 0
  pub live : IsLive new id
  pub list : list_of new id ≡ numbers
  pub one_hold : holds_of new id ≡ 1
  pub other_holds : (k : ℕ) → k ≢ id → holds_of new k ≡ holds_of old k
  pub counts : (k : ℕ) → (cell_at new k).count ≤ (cell_at old k).count + 1
  pub stays_live : (k : ℕ) → IsLive old k → IsLive new k
  pub lists : (k : ℕ) → IsLive old k → list_of new k ≡ list_of old k

-- A path has one outside hold more, and nothing else has changed.
pub record GainsHold (old new : List Cell) (id : ℕ) : Type 0 where
  pub one_more : holds_of new id ≡ holds_of old id + 1
  pub other_holds : (k : ℕ) → k ≢ id → holds_of new k ≡ holds_of old k
  pub counts : (k : ℕ) → (cell_at new k).count ≤ (cell_at old k).count + 1
  pub stays_live : (k : ℕ) → IsLive old k → IsLive new k
  pub was_live : (k : ℕ) → IsLive new k → IsLive old k
  pub lists : (k : ℕ) → IsLive old k → list_of new k ≡ list_of old k

-- A path has one outside hold less, no count rises, and nothing else has changed but which cells are live.
pub record LosesHold (old new : List Cell) (id : ℕ) : Type 0 where
  pub one_less : holds_of new id + 1 ≡ holds_of old id
  pub other_holds : (k : ℕ) → k ≢ id → holds_of new k ≡ holds_of old k
  pub counts : (k : ℕ) → (cell_at new k).count ≤ (cell_at old k).count
  pub was_live : (k : ℕ) → IsLive new k → IsLive old k
  pub lists : (k : ℕ) → IsLive new k → list_of new k ≡ list_of old k

-- Only cells that are not live have changed.
pub record SameCells (old new : List Cell) : Type 0 where
  pub holds : (k : ℕ) → holds_of new k ≡ holds_of old k
  pub counts : (k : ℕ) → (cell_at new k).count ≡ (cell_at old k).count
  pub stays_live : (k : ℕ) → IsLive old k → IsLive new k
  pub was_live : (k : ℕ) → IsLive new k → IsLive old k
  pub lists : (k : ℕ) → IsLive old k → list_of new k ≡ list_of old k
  pub live : live_count new ≡ live_count old
