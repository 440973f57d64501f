-- Lists of AS numbers.
use Rattle.std.proofs.Common.{◌≡◌, ◌⊎◌, inl, inr, ℕ, zero, suc, ◌<◌, ◌||◌, ◌==◌, Bool, true, false, nat_eq, List, [], ◌∷◌, ◌++◌, length, take, slice_index_or, refl, sym, ◌∙◌, ap, arith}
use Rattle.std.proofs.lemmas.Bool.{or_cases, or_left, or_right, eq-eqb, eqb-true}
use Rattle.std.proofs.lemmas.List.Folds.{list_any-append}
use Rattle.std.specs.List.{list_any, IsDistinct, AllByRecursion}
use Rattle.net_names.specs.Numbers.{occurs}

-- a list of one differs from a longer one
pub one_differs : (a b : ℕ) (xs ys zs : List ℕ) → xs ≡ a ∷ zs → ys ≡ b ∷ [] → 0 < length zs → xs ≡ ys → ⊥
one_differs a b xs ys zs e f some same =
    let none : zs ≡ [] = cc in
    omega (arith, some, ap length none)

pub all_at : (P : ℕ → Type 0) (xs : List ℕ) (i d : ℕ) → AllByRecursion P xs → i < length xs → P (slice_index_or xs i d)
all_at P [] i d all h = absurd (omega arith)
all_at P (x ∷ xs) zero d (p, all) h = p
all_at P (x ∷ xs) (suc i) d (p, all) h = all_at P xs i d all (omega arith)

-- where no number stands twice, none stands before its place
pub apart_at : (xs : List ℕ) (i d : ℕ) → IsDistinct nat_eq xs → i < length xs → occurs (slice_index_or xs i d) (take i xs) ≡ false
unfolding IsDistinct
apart_at [] i d apart h = absurd (omega arith)
apart_at (x ∷ xs) zero d apart h = refl
apart_at (x ∷ xs) (suc i) d (all, rest) h =
    let b = slice_index_or xs i d in
    let first : (x == b) ≡ false = all_at (λ y. nat_eq x y ≡ false) xs i d all (omega arith) in
    ap (λ t. t || occurs b (take i xs)) first ∙ apart_at xs i d rest (omega arith)

-- where some number of a list passes a test, one that stands in the list does,
pub found : (test : ℕ → Bool) (xs : List ℕ) → list_any test xs ≡ true → (b : ℕ) × (occurs b xs ≡ true) × (test b ≡ true)
found test [] is = cc
found test (x ∷ xs) is = elim (or_cases (test x) (list_any test xs) is) [
  | inl here ↦ (x, or_left (x == x) (occurs x xs) (eq-eqb x x refl), here)
  | inr further ↦ (let (b, there, passes) = found test xs further in (b, or_right (x == b) (occurs b xs) there, passes))
]

-- and the other way round
pub any_of : (test : ℕ → Bool) (xs : List ℕ) (b : ℕ) → occurs b xs ≡ true → test b ≡ true → list_any test xs ≡ true
any_of test [] b there passes = cc
any_of test (x ∷ xs) b there passes = elim (or_cases (x == b) (occurs b xs) there) [
  | inl same ↦ or_left (test x) (list_any test xs) (ap test (eqb-true x b same) ∙ passes)
  | inr further ↦ or_right (test x) (list_any test xs) (any_of test xs b further passes)
]

-- what stands in a list with one more at its end is that one, or stood there before
pub in_more : (b a : ℕ) (xs ys : List ℕ) → ys ≡ xs ++ a ∷ [] → occurs b ys ≡ true → (a ≡ b) ⊎ (occurs b xs ≡ true)
in_more b a xs ys is h = elim (or_cases (occurs b xs) _ (sym (list_any-append (λ y. y == b) xs (a ∷ [])) ∙ sym (ap (occurs b) is) ∙ h)) [
  | inl e ↦ inr e
  | inr e ↦ elim (or_cases (a == b) false e) [ inl t ↦ inl (eqb-true a b t) | inr f ↦ (let x : false ≡ true = f in cc) ]
]
