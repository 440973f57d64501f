-- A list of numbers, each with a policy or none, as a book of policies.
use Rattle.std.specs.Prelude.{ℕ, Option, None, Some, List, [], ◌∷◌, map}
use Rattle.std.specs.FinMap as fin
use Rattle.std.specs.FinSet as set
use Rattle.stability_laws.specs.Book.{PolicyBook}

-- a number goes before the others, where it has a policy
abbrev pub put_named : {P : Type 0} → ℕ → Option P → List (ℕ × P) → List (ℕ × P)
put_named a None rest = rest
put_named a (Some p) rest = (a, p) ∷ rest

-- the numbers with a policy, each with its own
abbrev pub named_of : {P : Type 0} → List (ℕ × Option P) → List (ℕ × P)
named_of [] = []
named_of (e ∷ es) = put_named e.0 e.1 (named_of es)

-- the book of these rows: who has a policy is named with it, and every number of the rows has room
abbrev pub book_of : {P : Type 0} → P → List (ℕ × Option P) → PolicyBook P
book_of rest rows = record { rest = rest; named = fin.from_entries (named_of rows); room = set.from_list (map (λ e. e.0) rows) }
