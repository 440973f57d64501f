-- What stands at a place of a list occurs in it.
use Rattle.std.proofs.Common.{◌≡◌, ◌==◌, ◌||◌, ℕ, zero, suc, Bool, true, false, Some, List, [], ◌∷◌, refl}
use Rattle.std.specs.Prelude.{slice_get}
use Rattle.std.proofs.lemmas.Bool.{eq-eqb, eqb-true, or_left, or_right}
use Rattle.net_names.specs.Numbers.{occurs}

pub stands : (x i : ℕ) (xs : List ℕ) → slice_get xs i ≡ Some x → occurs x xs ≡ true
stands x i [] h = cc
stands x zero (y ∷ ys) h = (let same : y ≡ x = cc in or_left (y == x) (occurs x ys) (eq-eqb y x same))
stands x (suc i) (y ∷ ys) h = or_right (y == x) (occurs x ys) (stands x i ys h)

-- what occurs in a list of one is that
pub lone : (a x : ℕ) → occurs x (a ∷ []) ≡ true → a ≡ x
lone a x there = by (a == x) refl there
  where
    by : (t : Bool) → (a == x) ≡ t → (t || false) ≡ true → a ≡ x
    by true e h = eqb-true a x e
    by false e h = cc
