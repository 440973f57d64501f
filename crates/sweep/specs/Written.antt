-- What was written of the text of a sweep.
use Rattle.std.specs.Prelude.{ℕ, List, Option}
use Rattle.io_edge.specs.Bytes.{Appends, AppendsFront}
use Rattle.sweep.specs.declared.error.RowsError.{RowsError}
use Rattle.sweep.specs.declared.error.RowsError.TheVariants.{Memory, Write}

-- a sink got such a text at its end
pub record Writes (IsText : List ℕ → Type 0) (old new : Option (List ℕ)) : Type 0 where
  pub text : List ℕ
  pub is : IsText text
  pub appended : Appends old new text

-- a sink got a front of such a text at its end
pub record WritesFront (IsText : List ℕ → Type 0) (old new : Option (List ℕ)) : Type 0 where
  pub text : List ℕ
  pub is : IsText text
  pub appended : AppendsFront old new text

-- how the writing of a text stops: where memory ran out such a beginning of it was appended, and where the sink failed, so that its faults rose, a front of one
abbrev pub Stops : (List ℕ → Type 0) → Option (List ℕ) → Option (List ℕ) → Type 0 → RowsError → Type 0
Stops IsBeginning old new rose Memory = Writes IsBeginning old new
Stops IsBeginning old new rose Write = rose × WritesFront IsBeginning old new
