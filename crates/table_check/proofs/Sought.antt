-- A number that is sought in a rising list.
use Rattle.std.proofs.Common.{◌≡◌, ℕ, ◌<◌, ◌≤◌, inl, inr, false, true, ◌==◌, List, length, get_or, Result, Ok, Err, sym, subst, arith}
use Rattle.std.specs.Prelude.{is_ok}
use Rattle.std.specs.Ordering.{nat_cmp}
use Rattle.std.specs.List.Sorted.{IsNonDecreasing, IsBinarySearchResult}
use Rattle.std.proofs.lemmas.Bool.{cases_lt, eq-eqb, eqb-true, false_from_ne_true}
use Rattle.std.proofs.lemmas.List.{get_or_default}
use Rattle.std.proofs.lemmas.List.Folds.{list_any_at, list_any_none}
use Rattle.std.proofs.lemmas.List.Sorted.{searched}
use Rattle.net_names.specs.Numbers.{occurs}

module _ (xs : List ℕ) (x : ℕ) (rising : IsNonDecreasing xs) where
  rises : (i j : ℕ) → i ≤ j → j < length xs → get_or xs i 0 ≤ get_or xs j 0
  rises i j le less = rising i j 0 le less

  found_in : (r : Result ℕ ℕ) → IsBinarySearchResult (λ y. nat_cmp y x) xs r → is_ok r ≡ occurs x xs
  found_in (Ok i) found =
      let at = searched xs x (Ok i) found rises in
      sym (list_any_at (λ y. y == x) xs i 0 at.0 (eq-eqb (get_or xs i 0) x at.1))
  found_in (Err i) found =
      let none = searched xs x (Err i) found rises in
      sym (list_any_none (λ y. y == x) xs (λ k d less. false_from_ne_true _ (λ same.
      let here : get_or xs k d ≡ x = eqb-true (get_or xs k d) x same in
      let there : get_or xs k 0 ≡ get_or xs k d = get_or_default xs k 0 d less in
      elim (cases_lt k i) [
        | inl below ↦ (let h = none.1 k below in absurd (omega (arith, h, here, there)))
        | inr above ↦ (let h = none.2 k above less in absurd (omega (arith, h, here, there)))
      ])))

  -- a search in it, by another name, finds just what stands there
  pub sought : (ys : List ℕ) → ys ≡ xs → (r : Result ℕ ℕ) → IsBinarySearchResult (λ y. nat_cmp y x) ys r → is_ok r ≡ occurs x xs
  sought ys same r is = found_in r (subst (λ zs. IsBinarySearchResult (λ y. nat_cmp y x) zs r) same is)
