-- What the reading of a whole file answers, and how much of the file it takes.
use Rattle.std.specs.Prelude.{ℕ, ◌+◌, ◌≤◌, ◌<◌, ◌≡◌, ◌⊎◌, List, length, Option, Result, Ok, Err, Vec}
use Rattle.std.specs.Global.{Global}
use Rattle.std.specs.Io.KnownBytes.{Consumes, IsAtEnd}
use Rattle.io_edge.specs.Faults.{HasRisen}
use Rattle.io_edge.specs.declared.whole.ReadAllError.{ReadAllError}
use Rattle.io_edge.specs.declared.whole.ReadAllError.TheVariants.{Memory, ReadFault, TooLong}

-- No call on the inputs failed: the count of faults didn't rise, or the name was sound.
abbrev pub NoCallFailed : ℕ → ℕ → Type 0 → Type 0
NoCallFailed before now was_sound = (HasRisen before now → ⊥) ⊎ was_sound

-- The answer for a file where no call failed: its bytes if they are within the limit, and else that they are too many.
abbrev pub IsReadOf : List ℕ → ℕ → Result (Vec ℕ Global) ReadAllError → Type 0
IsReadOf file limit (Ok bytes) = (bytes.items ≡ file) × (length file ≤ limit)
IsReadOf file limit (Err TooLong) = limit < length file
IsReadOf file limit (Err ReadFault) = ⊥
IsReadOf file limit (Err Memory) = Unit {0}

-- At most so many bytes were taken from the front of the file.
pub record TakesAtMost (most : ℕ) (held left : Option (List ℕ)) : Type 0 where
  pub bytes : List ℕ
  pub within : length bytes ≤ most
  pub taken : Consumes held left bytes

-- What was taken: the whole file, or at most one byte past the limit. Where `begin` failed, nothing is begun.
abbrev pub Takes : Option (List ℕ) → Option (List ℕ) → ℕ → Result (Vec ℕ Global) ReadAllError → Type 0
Takes held left limit (Ok bytes) = Consumes held left bytes.items × IsAtEnd left
Takes held left limit (Err ReadFault) = IsAtEnd left ⊎ TakesAtMost (limit + 1) held left
Takes held left limit (Err e) = TakesAtMost (limit + 1) held left
