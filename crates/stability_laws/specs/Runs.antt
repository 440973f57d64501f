-- Lists of steps.
use Rattle.std.specs.Prelude.{◌≡◌, ℕ, zero, suc, Bool, true, List, [], ◌∷◌, ◌++◌, ⊤}
use Rattle.net_names.specs.Numbers.{occurs}

-- from f to g by a step of each AS of the list in turn (Gao and Rexford 2001, activation sequence)
abbrev pub IsRunBy : {S : Type 0} → (S → ℕ → S → Type 0) → List ℕ → S → S → Type 0
IsRunBy {S} step [] f g = f ≡ g
IsRunBy {S} step (x ∷ xs) f g = (h : S) × step f x h × IsRunBy step xs h g

-- each AS stands in the list
abbrev pub HasAll : (ℕ → Bool) → List ℕ → Type 0
HasAll has xs = (a : ℕ) → has a ≡ true → occurs a xs ≡ true

-- only ASes stand in the list
abbrev pub HasOnly : (ℕ → Bool) → List ℕ → Type 0
HasOnly has xs = (a : ℕ) → occurs a xs ≡ true → has a ≡ true

-- the list begins with so many pieces, in each of which every AS stands (Gao and Rexford 2001, fair activation)
abbrev pub HasPieces : (ℕ → Bool) → ℕ → List ℕ → Type 0
HasPieces has zero xs = ⊤
HasPieces has (suc k) xs = (ys zs : List ℕ) × (xs ≡ ys ++ zs) × HasAll has ys × HasPieces has k zs
