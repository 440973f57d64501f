-- Columns before any end is sought.
use Rattle.std.specs.Prelude.{◌≡◌, ℕ, ◌≤◌, Bool, List, length, vec_capacity}
use Rattle.data_trace.specs.declared.places.Mark.TheVariants.{Unknown}
use Rattle.data_trace.specs.declared.kinds.End.{End}
use Rattle.data_trace.specs.declared.blank.Blank.{Blank}
use Rattle.data_trace.specs.Marks.{mark_of}
use Rattle.data_trace.specs.Sums.{room_of, total}

-- no end is known, the sums count none, and there is room for all places in the sums and on the path
pub record IsBlank (ases : List ℕ) (b : Blank) : Type 0 where
  pub unknown : (x : ℕ) → mark_of b.marks.items x ≡ Unknown
  pub marks_len : length b.marks.items ≡ length ases
  pub none : (p : End → Bool → ℕ → Bool) → total p b.sums ≡ 0
  pub sums_room : length ases ≤ room_of b.sums
  pub path_room : length ases ≤ vec_capacity b.path
