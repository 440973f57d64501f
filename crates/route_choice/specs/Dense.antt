-- Entries of many ASes, found by marks.
use Rattle.std.specs.Prelude.{◌≡◌, ℕ, ◌+◌, ◌-◌, ◌^◌, ◌<◌, ◌≤◌, ◌==◌, if◌then◌else◌, List, Option, None, Some, length, get_or, nat_eq}
use Rattle.std.specs.List.{IsDistinct}
use Rattle.indexmap.specs.IndexMap.{IndexMap, get, spare}
use Rattle.as_places.specs.Places.{place_of}
use Rattle.route_choice.specs.declared.row.Row.{Row}
use Rattle.route_choice.specs.Rows.{asns_of}

-- The row that a mark names: the mark is one more, or 0 for none.
abbrev pub marked : ℕ → Option ℕ
marked mark = if mark == 0 then None else Some (mark - 1)

-- The row that the mark at a place names, or without a place another row.
abbrev pub marked_or : Option ℕ → List ℕ → Option ℕ → Option ℕ
marked_or late marks None = late
marked_or late marks (Some place) = marked (get_or marks place 0)

module _ {S : Type 0} where
  -- The row of an AS: by the mark at its place in the list, or by hash where it has no place.
  abbrev pub row_of : List ℕ → List ℕ → IndexMap ℕ ℕ S → ℕ → Option ℕ
  row_of ases marks late a = marked_or (get nat_eq late a) marks (place_of ases a)

  -- No AS has two rows, each AS's row is found, and there is room for so many more.
  pub record IsDense (ases marks : List ℕ) (late : IndexMap ℕ ℕ S) (rows : List Row) (cap room : ℕ) : Type 0 where
    pub found : (a : ℕ) → place_of (asns_of rows) a ≡ row_of ases marks late a
    pub all_marked : length marks ≡ length ases
    pub apart : IsDistinct nat_eq (asns_of rows)
    pub rows_room : length rows + room ≤ cap
    pub late_room : room ≤ spare late
    pub small : length rows + room < 2 ^ 32
