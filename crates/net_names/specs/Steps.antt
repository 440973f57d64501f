-- Steps that may give nothing, and the first fault of a list.
use Rattle.std.specs.Prelude.{Bool, if◌then◌else◌, List, [], ◌∷◌, ◌++◌, Option, Some, None, option_and_then, Result, Err}
use Rattle.std.specs.Option.{option_or, option_map_or}

-- the next step, taken with what the first step gave, where it gave something
infixl 10 ◌>>=◌
abbrev pub ◌>>=◌ : {A B : Type 0} → Option A → (A → Option B) → Option B
o >>= f = option_and_then f o

-- the value, where it passes the test
abbrev pub option_filter : {A : Type 0} → (A → Bool) → Option A → Option A
option_filter test o = o >>= λ x. if test x then Some x else None

-- the value, unless there is a fault
abbrev pub unless : {A E : Type 0} → Option E → Result A E → Result A E
unless fault value = option_map_or Err fault value

-- the first fault of items that stand behind others, where it is told which fault an item has behind those before it
abbrev pub first_fault : {A E : Type 0} → (List A → A → Option E) → List A → List A → Option E
first_fault fault ys [] = None
first_fault fault ys (x ∷ xs) = option_or (fault ys x) (first_fault fault (ys ++ x ∷ []) xs)
