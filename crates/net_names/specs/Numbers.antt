-- Lists of AS numbers.
use Rattle.std.specs.Prelude.{◌≡◌, ℕ, Bool, false, ◌==◌, List, [], ◌∷◌, ⊤}
use Rattle.std.specs.List.{list_any}

-- the number stands in the list
abbrev pub occurs : ℕ → List ℕ → Bool
occurs x xs = list_any (λ y. y == x) xs

-- no number stands twice in the list
abbrev pub IsDistinct : List ℕ → Type 0
IsDistinct [] = ⊤
IsDistinct (x ∷ xs) = (occurs x xs ≡ false) × IsDistinct xs

-- the last number of the list, or the given one where the list is empty
abbrev pub last_or : ℕ → List ℕ → ℕ
last_or d [] = d
last_or d (x ∷ xs) = last_or x xs
