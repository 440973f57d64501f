-- Ways from AS to AS.
use Rattle.std.specs.Prelude.{◌≡◌, ℕ, ◌+◌, ◌<◌, nat_eq, Some, List, length, slice_get, slice_index}
use Rattle.std.specs.List.{IsDistinct}

-- a way from an AS: distinct ASes, the first of them that AS, each with a step to the next (own format)
pub record IsWay (step : ℕ → ℕ → Type 0) (a : ℕ) (xs : List ℕ) : Type 0 where
  pub starts : slice_get xs 0 ≡ Some a
  pub steps : (i : ℕ) → i + 1 < length xs → step (slice_index xs i) (slice_index xs (i + 1))
  pub distinct : IsDistinct nat_eq xs
