-- What a buffer of a fixed room keeps of the bytes that are written.
use Rattle.std.specs.Prelude.{ℕ, Bool, ◌&&◌, nat_le, List, ◌++◌, length, take, Option, Some, None, if◌then◌else◌}

-- How many bytes fit, those that are kept, and whether all that was written has fitted.
pub record Room : Type 0 where
  pub room : ℕ
  pub kept : List ℕ
  pub whole : Bool

-- The bytes written, while all of them have fitted.
abbrev pub told : Room → Option (List ℕ)
told r = if r.whole then Some r.kept else None

-- After these bytes too: what fits is kept, and nothing from the first byte on that doesn't.
abbrev pub with_bytes : Room → List ℕ → Room
with_bytes r bytes = record r { kept = take r.room (r.kept ++ bytes); whole = r.whole && nat_le (length (r.kept ++ bytes)) r.room }
