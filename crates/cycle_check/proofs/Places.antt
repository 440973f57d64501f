-- The place of a number in a list.
use Rattle.std.proofs.Common.{◌≡◌, ◌≢◌, ℕ, zero, suc, ◌<◌, Bool, true, false, ◌||◌, ◌==◌, cond, List, [], ◌∷◌, length, get_or, refl, sym, ◌∙◌, ap, arith}
use Rattle.std.proofs.lemmas.Bool.{eqb-true, eq-eqb, ne_eqb, or_parts}
use Rattle.std.proofs.lemmas.List.Kept.{AllPairs-from_increasing}
use Rattle.std.specs.List.Sorted.{IsStrictlyIncreasing}
use Rattle.net_names.specs.Numbers.{occurs}
use Rattle.cycle_check.specs.Places.{place_in}

pub place_is : (xs : List ℕ) (i x : ℕ) → i < length xs → get_or xs i 0 ≡ x → ((k : ℕ) → k < i → get_or xs k 0 ≢ x) → place_in xs x ≡ i
place_is [] i x h e before = absurd (omega arith)
place_is (y ∷ ys) zero x h e before = ap (λ b. cond b 0 (suc (place_in ys x))) (eq-eqb y x e)
place_is (y ∷ ys) (suc i) x h e before =
    ap (λ b. cond b 0 (suc (place_in ys x))) (ne_eqb y x (before 0 (omega arith)))
    ∙ ap suc (place_is ys i x (omega arith) e (λ k less. before (suc k) (omega arith)))

pub place_past : (xs : List ℕ) (x : ℕ) → ((k : ℕ) → k < length xs → get_or xs k 0 ≢ x) → place_in xs x ≡ length xs
place_past [] x none = refl
place_past (y ∷ ys) x none =
    ap (λ b. cond b 0 (suc (place_in ys x))) (ne_eqb y x (none 0 (omega arith)))
    ∙ ap suc (place_past ys x (λ k less. none (suc k) (omega arith)))

pub place_less : (xs : List ℕ) (x : ℕ) → occurs x xs ≡ true → place_in xs x < length xs
place_less [] x h = cc
place_less (y ∷ ys) x h = by (y == x) refl (place_less ys x)
  where
    by : (b : Bool) → (y == x) ≡ b → (occurs x ys ≡ true → place_in ys x < length ys) → cond b 0 (suc (place_in ys x)) < suc (length ys)
    by true is ih = omega arith
    by false is ih = let less = ih (sym (ap (λ b. b || occurs x ys) is) ∙ h) in omega (arith, less)

pub place_at : (xs : List ℕ) → IsStrictlyIncreasing xs → (i : ℕ) → i < length xs → place_in xs (get_or xs i 0) ≡ i
place_at xs rising i h = place_is xs i (get_or xs i 0) h refl (λ k less e. (let rises : get_or xs k 0 < get_or xs i 0 = AllPairs-from_increasing xs rising k i 0 less h in absurd (omega (arith, rises, e))))

pub place_none : (xs : List ℕ) (x : ℕ) → occurs x xs ≡ false → place_in xs x ≡ length xs
place_none [] x h = refl
place_none (y ∷ ys) x h =
    let parts = or_parts (y == x) (occurs x ys) h in
    ap (λ b. cond b 0 (suc (place_in ys x))) parts.0 ∙ ap suc (place_none ys x parts.1)

pub at_place : (xs : List ℕ) (x d : ℕ) → occurs x xs ≡ true → get_or xs (place_in xs x) d ≡ x
at_place [] x d h = cc
at_place (y ∷ ys) x d h = by (y == x) refl (at_place ys x d)
  where
    by : (b : Bool) → (y == x) ≡ b → (occurs x ys ≡ true → get_or ys (place_in ys x) d ≡ x) → get_or (y ∷ ys) (cond b 0 (suc (place_in ys x))) d ≡ x
    by true is ih = eqb-true y x is
    by false is ih = ih (sym (ap (λ b. b || occurs x ys) is) ∙ h)
