-- Lists that grow at their end, and what holds of their elements.
use Rattle.std.proofs.Common.{◌≡◌, inl, inr, ℕ, zero, suc, ◌+◌, ◌<◌, ◌++◌, ◌||◌, ◌==◌, true, List, [], ◌∷◌, length, map, get_or, slice_index_or, refl, sym, ◌∙◌, ap, subst, arith}
use Rattle.std.specs.Prelude.{All}
use Rattle.std.proofs.lemmas.Bool.{cases_lt, eq-eqb, or_right}
use Rattle.std.proofs.lemmas.List.{get_or_read, map-append}
use Rattle.std.proofs.lemmas.List.Elements.{All-append}
use Rattle.std.proofs.lemmas.List.Folds.{list_any-append}
use Rattle.net_names.specs.Numbers.{occurs}

-- what holds of the elements before a place and of the one there holds of those before the next
pub one_more : {X : Type 0} (xs : List X) (i : ℕ) (x : X) → x ≡ slice_index_or xs i x → i < length xs → (F : X → Type 0) → ((k : ℕ) → k < i → (d : X) → F (slice_index_or xs k d)) → F x → (k : ℕ) → k < i + 1 → (d : X) → F (slice_index_or xs k d)
one_more xs i x is inside F so_far here k less d = elim (cases_lt k i) [
  | inl before ↦ so_far k before d
  | inr past ↦ (let e : i ≡ k = omega (arith, less, past) in subst F (get_or_read xs i x inside is d ∙ ap (λ n. get_or xs n d) e) here)
]

all_one : {X : Type 0} (P : X → Type 0) (x : X) → P x → All P (x ∷ [])
all_one P x p zero d less = p
all_one P x p (suc k) d less = absurd (omega (arith, less))

-- what holds of all elements and of one more
pub all_more : {X : Type 0} (P : X → Type 0) (xs ys : List X) (x : X) → ys ≡ xs ++ x ∷ [] → All P xs → P x → All P ys
all_more P xs ys x is all p = subst (All P) (sym is) (All-append P xs (x ∷ []) all (all_one P x p))

module _ {X : Type 0} (number : X → ℕ) (xs ys : List X) (x : X) (is : ys ≡ xs ++ x ∷ []) where
  numbers_more : map number ys ≡ map number xs ++ number x ∷ []
  numbers_more = ap (map number) is ∙ map-append number xs (x ∷ [])

  split : (b : ℕ) → occurs b (map number ys) ≡ (occurs b (map number xs) || occurs b (number x ∷ []))
  split b = ap (occurs b) numbers_more ∙ list_any-append (λ y. y == b) (map number xs) (number x ∷ [])

  -- the numbers stay, and there is one more
  pub occurs_kept : (b : ℕ) → occurs b (map number xs) ≡ true → occurs b (map number ys) ≡ true
  occurs_kept b there = split b ∙ ap (λ t. t || occurs b (number x ∷ [])) there

  pub occurs_new : occurs (number x) (map number ys) ≡ true
  occurs_new = split (number x) ∙ or_right (occurs (number x) (map number xs)) _ (ap (λ t. t || occurs (number x) []) (eq-eqb (number x) (number x) refl))
