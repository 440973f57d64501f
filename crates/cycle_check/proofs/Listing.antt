-- Which numbers stand in a list and in its parts.
use Rattle.std.proofs.Common.{◌≡◌, ◌⊎◌, inl, inr, ℕ, zero, suc, ◌+◌, ◌<◌, ◌≤◌, true, false, ◌==◌, List, [], ◌∷◌, length, get_or, take, refl, sym, ap, subst, arith}
use Rattle.std.proofs.lemmas.Bool.{cases_Bool, or_cases, or_left, or_right, eqb-true, eq-eqb, cases_eq}
use Rattle.std.proofs.lemmas.List.{take_more}
use Rattle.net_names.specs.Numbers.{occurs, IsDistinct}
use Rattle.as_graph.proofs.Chains.{distinct_le}
use Rattle.cycle_check.proofs.Descents.{occurs_push, occurs_before, occurs_last, distinct_init}
pub use Rattle.net_names.proofs.Shared.{occurs_head, occurs_rest, occurs_cons, occurs_index}

-- what stands at an index stands in the list
pub occurs_get : (xs : List ℕ) (i d : ℕ) → i < length xs → occurs (get_or xs i d) xs ≡ true
occurs_get [] i d h = absurd (omega arith)
occurs_get (x ∷ xs) zero d h = occurs_head x xs
occurs_get (x ∷ xs) (suc i) d h = occurs_rest (get_or xs i d) x xs (occurs_get xs i d (omega arith))

-- what stands among the first n stands at one of their indices
pub occurs_take : (n x : ℕ) (xs : List ℕ) → occurs x (take n xs) ≡ true → (i : ℕ) × (i < n) × (i < length xs) × (get_or xs i 0 ≡ x)
occurs_take zero x xs o = cc
occurs_take (suc n) x [] o = cc
occurs_take (suc n) x (y ∷ ys) o = elim (occurs_cons x y (take n ys) o) [
  | inl e ↦ (0, omega arith, omega arith, e)
  | inr e ↦ (let (i, low, less, is) = occurs_take n x ys e in (suc i, omega (arith, low), omega (arith, less), is))
]

pub take_occurs : (n x : ℕ) (xs : List ℕ) → occurs x (take n xs) ≡ true → occurs x xs ≡ true
take_occurs n x xs o = let (i, low, less, is) = occurs_take n x xs o in subst (λ t. occurs t xs ≡ true) is (occurs_get xs i 0 less)

-- among the first n + 1 stand the first n and the one at n
pub take_step : (n x : ℕ) (xs : List ℕ) → n < length xs → occurs x (take (n + 1) xs) ≡ true → (occurs x (take n xs) ≡ true) ⊎ (get_or xs n 0 ≡ x)
take_step n x xs h o = occurs_push x (take n xs) (get_or xs n 0) (subst (λ t. occurs x t ≡ true) (take_more xs n 0 h) o)

pub take_before : (n x : ℕ) (xs : List ℕ) → n < length xs → occurs x (take n xs) ≡ true → occurs x (take (n + 1) xs) ≡ true
take_before n x xs h o = subst (λ t. occurs x t ≡ true) (sym (take_more xs n 0 h)) (occurs_before x (take n xs) (get_or xs n 0) o)

pub take_here : (n : ℕ) (xs : List ℕ) → n < length xs → occurs (get_or xs n 0) (take (n + 1) xs) ≡ true
take_here n xs h = subst (λ t. occurs (get_or xs n 0) t ≡ true) (sym (take_more xs n 0 h)) (occurs_last (take n xs) (get_or xs n 0))

none_taken : (n x : ℕ) (xs : List ℕ) → occurs x xs ≡ false → occurs x (take n xs) ≡ false
none_taken n x xs o = elim (cases_Bool (occurs x (take n xs))) [ inl e ↦ (let there = take_occurs n x xs e in cc) | inr e ↦ e ]

pub distinct_take : (n : ℕ) (xs : List ℕ) → IsDistinct xs → IsDistinct (take n xs)
distinct_take zero xs d = tt
distinct_take (suc n) [] d = tt
distinct_take (suc n) (x ∷ xs) d = (none_taken n x xs d.0, distinct_take n xs d.1)

-- in a list of distinct numbers the one at n does not stand before
pub not_before : (n : ℕ) (xs : List ℕ) → IsDistinct xs → n < length xs → occurs (get_or xs n 0) (take n xs) ≡ false
not_before n xs d h = (distinct_init (take n xs) (get_or xs n 0) (subst IsDistinct (take_more xs n 0 h) (distinct_take (n + 1) xs d))).1

-- ---- numbers below a bound

down_from : ℕ → List ℕ
down_from zero = []
down_from (suc n) = n ∷ down_from n

length_down : (n : ℕ) → length (down_from n) ≡ n
unfolding down_from
length_down zero = refl
length_down (suc n) = ap suc (length_down n)

occurs_down : (n x : ℕ) → x < n → occurs x (down_from n) ≡ true
unfolding down_from
occurs_down zero x h = absurd (omega arith)
occurs_down (suc n) x h = elim (cases_eq n x) [
  | inl e ↦ or_left (n == x) (occurs x (down_from n)) (eq-eqb n x e)
  | inr ne ↦ or_right (n == x) (occurs x (down_from n)) (occurs_down n x (omega arith))
]

-- distinct numbers below n are at most n
pub distinct_below : (n : ℕ) (xs : List ℕ) → IsDistinct xs → ((x : ℕ) → occurs x xs ≡ true → x < n) → length xs ≤ n
distinct_below n xs d below = omega (arith, length_down n, distinct_le xs (down_from n) d (λ x o. occurs_down n x (below x o)))
