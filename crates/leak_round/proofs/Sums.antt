-- Sums of which one term changes.
use Rattle.std.proofs.Common.{◌≡◌, ◌≢◌, ℕ, zero, suc, ◌+◌, ◌*◌, ◌≤◌, Some, List, [], ◌∷◌, length, refl, subst, arith}
use Rattle.std.specs.Prelude.{slice_get}
use Rattle.std.specs.List.{sum_by}
use Rattle.std.proofs.lemmas.List.Sums.{sum_by-cons}

pub sum_by-zero : {X : Type 0} (f : X → ℕ) (xs : List X) → ((x : X) → f x ≡ 0) → sum_by f xs ≡ 0
sum_by-zero f [] none = refl
sum_by-zero f (x ∷ xs) none = omega (arith, sum_by-cons f x xs, none x, sum_by-zero f xs none)

pub sum_by-same : {X : Type 0} (f g : X → ℕ) (xs : List X) → ((i : ℕ) (x : X) → slice_get xs i ≡ Some x → g x ≡ f x) → sum_by g xs ≡ sum_by f xs
sum_by-same f g [] same = refl
sum_by-same f g (x ∷ xs) same = omega (arith, sum_by-cons f x xs, sum_by-cons g x xs, same 0 x refl, sum_by-same f g xs (λ i y at. same (suc i) y at))

-- at one place alone the terms differ
pub sum_by-change : {X : Type 0} (f g : X → ℕ) (xs : List X) (i : ℕ) (x : X) → slice_get xs i ≡ Some x → ((j : ℕ) (y : X) → slice_get xs j ≡ Some y → j ≢ i → g y ≡ f y) → sum_by g xs + f x ≡ sum_by f xs + g x
sum_by-change f g [] i x at same = cc
sum_by-change {X} f g (y ∷ xs) zero x at same =
    let one : y ≡ x = cc in
    let rest = sum_by-same f g xs (λ j z is. same (suc j) z is (λ e. absurd (omega (arith, e)))) in
    subst (λ (z : X). sum_by g (y ∷ xs) + f z ≡ sum_by f (y ∷ xs) + g z) one (omega (arith, sum_by-cons f y xs, sum_by-cons g y xs, rest))
sum_by-change f g (y ∷ xs) (suc i) x at same =
    let rest = sum_by-change f g xs i x at (λ j z is ne. same (suc j) z is (λ e. ne (omega (arith, e)))) in
    omega (arith, sum_by-cons f y xs, sum_by-cons g y xs, same 0 y refl (λ e. absurd (omega (arith, e))), rest)

-- a term is no more than the sum
pub sum_by-one-le : {X : Type 0} (f : X → ℕ) (xs : List X) (i : ℕ) (x : X) → slice_get xs i ≡ Some x → f x ≤ sum_by f xs
sum_by-one-le f [] i x at = cc
sum_by-one-le {X} f (y ∷ xs) zero x at = (let one : y ≡ x = cc in subst (λ (z : X). f z ≤ sum_by f (y ∷ xs)) one (omega (arith, sum_by-cons f y xs)))
sum_by-one-le f (y ∷ xs) (suc i) x at = omega (arith, sum_by-cons f y xs, sum_by-one-le f xs i x at)

pub sum_by-most : {X : Type 0} (f : X → ℕ) (most : ℕ) (xs : List X) → ((i : ℕ) (x : X) → slice_get xs i ≡ Some x → f x ≤ most) → sum_by f xs ≤ most * length xs
sum_by-most f most [] few = omega arith
sum_by-most f most (x ∷ xs) few =
    let rest = sum_by-most f most xs (λ i y at. few (suc i) y at) in
    let parts : most * (1 + length xs) ≡ most + most * length xs = omega arith in
    omega (arith, sum_by-cons f x xs, few 0 x refl, rest, parts)
