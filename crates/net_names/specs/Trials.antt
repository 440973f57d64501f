-- Steps that may fail.
use Rattle.std.specs.Prelude.{Result, Ok, Err}

-- the next step, taken with what the first step gave, where it did not fail
infixl 10 ◌>>=◌
abbrev pub ◌>>=◌ : {A B E : Type 0} → Result A E → (A → Result B E) → Result B E
r >>= f = elim r [ Ok x ↦ f x | Err e ↦ Err e ]
