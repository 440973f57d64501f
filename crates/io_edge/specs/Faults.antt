-- How a failure is told from an answer that gives up by itself: each object counts its faults.
use Rattle.std.specs.Prelude.{ℕ, ◌+◌, ◌-◌, ◌^◌, ◌≤◌, ◌≡◌, List, Option, nat_lt, if◌then◌else◌, OnErr, Result}

-- The count has risen. It is kept in 64 bits, and one that stands at its last value has risen too.
abbrev pub HasRisen : ℕ → ℕ → Type 0
HasRisen before now = (if nat_lt before (2 ^ 64 - 1) then before + 1 else before) ≤ now

-- The count of faults doesn't fall, and an error comes only where it rose.
pub record HasCause {T E : Type 0} (before now : ℕ) (result : Result T E) : Type 0 where
  pub later : before ≤ now
  pub failed : OnErr result (HasRisen before now)

-- What the names hold stays, a sound name stays sound, and the count of faults doesn't fall.
pub record KeepsNames {I : Type 0} (holds : I → List ℕ → Option (List ℕ)) (is_sound : I → List ℕ → Type 0) (faults : I → ℕ) (old new : I) : Type 0 where
  pub holds_same : (name : List ℕ) → holds new name ≡ holds old name
  pub sound : (name : List ℕ) → is_sound old name → is_sound new name
  pub later : faults old ≤ faults new
