-- The sums of a watch count its places.
use Rattle.std.specs.Prelude.{◌≡◌, ℕ, zero, suc, ◌+◌, ◌<◌, ◌≤◌, Bool, ◌&&◌, if◌then◌else◌, Option, None, Some, option_map, List, length}
use Rattle.data_trace.specs.declared.kinds.End.{End}
use Rattle.data_trace.specs.declared.places.PlaceEnd.TheVariants as place_end
use Rattle.data_trace.specs.declared.places.Mark.{Mark}
use Rattle.data_trace.specs.declared.places.Mark.TheVariants.{Known}
use Rattle.data_trace.specs.declared.places.Group.{Group}
use Rattle.data_trace.specs.declared.places.TheConstants.{PLACE_LIMIT}
use Rattle.data_trace.specs.declared.sums.Sums.{Sums}
use Rattle.data_trace.specs.Marks.{mark_of, end_in}
use Rattle.data_trace.specs.Columns.{named_end, group_at, is_here, is_stub}
use Rattle.data_trace.specs.Sums.{total, room_of}

-- the end that is kept of a place, if it is known, with the AS in place of its place
abbrev pub kept_end : List ℕ → Mark → Option End
kept_end ases m = option_map (named_end ases) (end_in m)

-- what an AS with this end and these groups adds to the sum of those that pass the test; an AS that is gone, or whose end is not known, adds nothing
abbrev pub adds : (End → Bool → ℕ → Bool) → Option End → Group → ℕ
adds p None g = 0
adds p (Some e) g = if is_here g.standing && p e (is_stub g.standing) g.label then 1 else 0

-- what a place adds
abbrev pub adds_at : (End → Bool → ℕ → Bool) → List ℕ → List Mark → List Group → ℕ → ℕ
adds_at p ases marks groups x = adds p (kept_end ases (mark_of marks x)) (group_at groups x)

-- the sum of f over the numbers below n
abbrev pub summed : (ℕ → ℕ) → ℕ → ℕ
summed f zero = zero
summed f (suc n) = summed f n + f n

-- the sums count each place, and known ends are places
pub record AreCounted (sums : Sums) (ases : List ℕ) (marks : List Mark) (groups : List Group) : Type 0 where
  pub marks_len : length marks ≡ length ases
  pub groups_len : length groups ≡ length ases
  pub below : (x y : ℕ) → mark_of marks x ≡ Known (place_end.At y) → y < length ases
  pub each : (p : End → Bool → ℕ → Bool) → total p sums ≡ summed (adds_at p ases marks groups) (length ases)

-- the sums count each place and have room for a cell of each, and each place fits in four bytes
pub record CanCount (sums : Sums) (ases : List ℕ) (marks : List Mark) (groups : List Group) : Type 0 where
  pub few : length ases < PLACE_LIMIT
  pub counted : AreCounted sums ases marks groups
  pub room : length ases ≤ room_of sums
