-- Lists that are gone through one by one, and lists that grow at the end.
use Rattle.std.proofs.Common.{◌≡◌, ◌≢◌, ◌⊎◌, inl, inr, ℕ, zero, suc, ◌+◌, ◌<◌, None, Some, List, [], ◌∷◌, ◌++◌, length, refl, sym, ap, subst, ◌∙◌, arith}
use Rattle.std.proofs.Math.ListN.{set}
use Rattle.std.specs.Prelude.{slice_get}
use Rattle.std.proofs.lemmas.Bool.{cases_eq}

-- an item of a list that has grown by one is the new one or one of the old ones
pub pushed : {X : Type 0} (xs : List X) (x : X) (i : ℕ) (y : X) → slice_get (xs ++ x ∷ []) i ≡ Some y → (slice_get xs i ≡ Some y) ⊎ ((i ≡ length xs) × (x ≡ y))
pushed [] x zero y at = inr (refl, (let same : Some x ≡ Some y = at in cc))
pushed [] x (suc i) y at = absurd (let no : None ≡ Some y = at in cc)
pushed (z ∷ xs) x zero y at = inl at
pushed (z ∷ xs) x (suc i) y at = elim (pushed xs x i y at) [
  | inl old ↦ inl old
  | inr new ↦ inr (omega (arith, new.0), new.1)
]

pub pushed_old : {X : Type 0} (xs : List X) (x : X) (i : ℕ) (y : X) → slice_get xs i ≡ Some y → slice_get (xs ++ x ∷ []) i ≡ Some y
pushed_old [] x i y at = absurd (let no : None ≡ Some y = at in cc)
pushed_old (z ∷ xs) x zero y at = at
pushed_old (z ∷ xs) x (suc i) y at = pushed_old xs x i y at

pub pushed_new : {X : Type 0} (xs : List X) (x : X) → slice_get (xs ++ x ∷ []) (length xs) ≡ Some x
pushed_new [] x = refl
pushed_new (z ∷ xs) x = pushed_new xs x

-- what is written at a place stands there, and the others stay
pub written_here : {X : Type 0} (xs : List X) (n : ℕ) (v x : X) → slice_get (set xs n v) n ≡ Some x → v ≡ x
written_here [] n v x at = absurd (let no : None ≡ Some x = at in cc)
written_here (y ∷ xs) zero v x at = (let same : Some v ≡ Some x = at in cc)
written_here (y ∷ xs) (suc n) v x at = written_here xs n v x at

pub written_there : {X : Type 0} (xs : List X) (n i : ℕ) (v : X) → i ≢ n → slice_get (set xs n v) i ≡ slice_get xs i
written_there [] n i v apart = refl
written_there (y ∷ xs) zero zero v apart = absurd (apart refl)
written_there (y ∷ xs) zero (suc i) v apart = refl
written_there (y ∷ xs) (suc n) zero v apart = refl
written_there (y ∷ xs) (suc n) (suc i) v apart = written_there xs n i v (λ e. apart (ap suc e))

-- what holds of each item of a front, and of what is written behind it, holds of each of the longer front
pub write_next : {X : Type 0} (P : ℕ → X → Type 0) (xs : List X) (n : ℕ) (v : X) → P n v → ((i : ℕ) (x : X) → i < n → slice_get xs i ≡ Some x → P i x) → (i : ℕ) (x : X) → i < n + 1 → slice_get (set xs n v) i ≡ Some x → P i x
write_next P xs n v here before i x less at = elim (cases_eq i n) [
  | inl same ↦
      let is : v ≡ x = written_here xs n v x (ap (slice_get (set xs n v)) (sym same) ∙ at) in
      subst (λ (j : ℕ). P j x) (sym same) (subst (P n) is here)
  | inr other ↦ before i x (omega (arith, less, other)) (sym (written_there xs n i v other) ∙ at)
]
