-- Marks of AS numbers by their remainders.
use Rattle.std.specs.Prelude.{ℕ, Bool, false, ◌%◌, slice_index_or}
use Rattle.route_choice.specs.declared.marks.Marks.{Marks}

module _ {N : ℕ} where
  -- the number's remainder when it is divided by N is marked
  unfoldable pub is_marked : Marks N → ℕ → Bool
  is_marked m a = slice_index_or m.marks (a % N) false
