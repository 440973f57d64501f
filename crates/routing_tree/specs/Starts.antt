-- Where lists begin in one region.
use Rattle.std.specs.Prelude.{ℕ, ◌-◌, ◌≡◌, ◌<◌, ◌≤◌, List, length, slice_index}

-- the places rise from 0 to the region's end
pub record AreStarts (starts : List ℕ) (n : ℕ) : Type 0 where
  pub some : 0 < length starts
  pub rising : (i j : ℕ) → i ≤ j → j < length starts → slice_index starts i ≤ slice_index starts j
  pub last : slice_index starts (length starts - 1) ≡ n
