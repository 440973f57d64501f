-- The places of numbers in a list.
use Rattle.std.specs.Prelude.{ℕ, suc, ◌==◌, if◌then◌else◌, List, [], ◌∷◌}

-- the place of a number in a list, or the list's length where it is not there
abbrev pub place_in : List ℕ → ℕ → ℕ
place_in [] a = 0
place_in (x ∷ xs) a = if x == a then 0 else suc (place_in xs a)
