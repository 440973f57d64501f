-- Stances of places, and one more at the end.
use Rattle.std.proofs.Common.{◌≡◌, ◌<◌, inl, inr, ℕ, zero, suc, ◌+◌, Some, List, [], ◌∷◌, ◌++◌, length, refl, sym, ◌∙◌, ap, subst, arith}
use Rattle.std.specs.Prelude.{slice_get}
use Rattle.std.proofs.lemmas.Bool.{cases_lt}
use Rattle.std.proofs.lemmas.Option.{slice_get_within}
use Rattle.std.proofs.lemmas.List.{length-append}

-- the elements stay where they are,
got_before : {X : Type 0} (xs : List X) (x : X) (k : ℕ) → k < length xs → slice_get (xs ++ x ∷ []) k ≡ slice_get xs k
got_before [] x k less = absurd (omega (arith, less))
got_before (y ∷ xs) x zero less = refl
got_before (y ∷ xs) x (suc k) less = got_before xs x k (omega (arith, less))

-- and the new one stands behind them
got_last : {X : Type 0} (xs : List X) (x : X) → slice_get (xs ++ x ∷ []) (length xs) ≡ Some x
got_last [] x = refl
got_last (y ∷ xs) x = got_last xs x

-- what holds of each element at its place holds of them and of one more
pub each_more : {X : Type 0} (P : ℕ → X → Type 0) (xs ys : List X) (x : X) (n : ℕ) → ys ≡ xs ++ x ∷ [] → length xs ≡ n → P n x → ((k : ℕ) (y : X) → slice_get xs k ≡ Some y → P k y) → (k : ℕ) (y : X) → slice_get ys k ≡ Some y → P k y
each_more P xs ys x n is long this so_far k y at = elim (cases_lt k (length xs)) [
  | inl before ↦ so_far k y (sym (got_before xs x k before) ∙ sym (ap (λ zs. slice_get zs k) is) ∙ at)
  | inr past ↦
      let within : k < length ys = slice_get_within ys k y at in
      let count : length ys ≡ length xs + 1 = ap length is ∙ length-append xs (x ∷ []) in
      let here : n ≡ k = omega (arith, within, count, past, long) in
      let both : Some x ≡ Some y = sym (got_last xs x) ∙ ap (slice_get (xs ++ x ∷ [])) (long ∙ here) ∙ sym (ap (λ zs. slice_get zs k) is) ∙ at in
      let same : x ≡ y = cc in
      subst (P k) same (subst (λ m. P m x) here this)
]
