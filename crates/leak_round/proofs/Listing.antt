-- Lists that are walked from place to place up to the first that is past their end.
use Rattle.std.proofs.Common.{◌≡◌, ℕ, zero, suc, ◌+◌, ◌*◌, ◌<◌, ◌≤◌, Option, Some, None, List, [], ◌∷◌, ◌++◌, ◌⊎◌, length, take, refl, ap, ◌∙◌, arith, inl, inr}
use Rattle.std.specs.Prelude.{IsSome, slice_get}
use Rattle.std.specs.List.{sum_by}
use Rattle.std.proofs.lemmas.List.Sums.{sum_by_push}
use Rattle.std.proofs.Math.Nat.{mul-le-mul_left}
use Rattle.stability_laws.proofs.Listing.{take_next}

pub sum_next : {X : Type 0} (f : X → ℕ) (xs : List X) (i : ℕ) (x : X) → slice_get xs i ≡ Some x → sum_by f (take (i + 1) xs) ≡ sum_by f (take i xs) + f x
sum_next f xs i x is = ap (sum_by f) (take_next xs i x is) ∙ sum_by_push f (take i xs) x

pub some_of : {X : Type 0} (o : Option X) → IsSome o → (x : X) × (o ≡ Some x)
some_of None h = cc
some_of (Some x) h = (x, refl)

-- a further part of the same cost
pub cost_more : (start so_far next each n all : ℕ) → so_far ≤ start + each * n → next ≤ so_far + each → n + 1 ≤ all → next ≤ start + each * all
cost_more start so_far next each n all before step within =
    let whole : each * (n + 1) ≤ each * all = mul-le-mul_left each within in
    let parts : each * (n + 1) ≡ each * n + each = omega arith in
    omega arith

-- what stands in a list with one more at the end
pub got_either : {X : Type 0} (xs : List X) (x : X) (i : ℕ) (y : X) → slice_get (xs ++ x ∷ []) i ≡ Some y → (slice_get xs i ≡ Some y) ⊎ (x ≡ y)
got_either [] x zero y e = inr (let same : x ≡ y = cc in same)
got_either [] x (suc i) y e = cc
got_either (z ∷ xs) x zero y e = inl e
got_either (z ∷ xs) x (suc i) y e = got_either xs x i y e

pub got_before : {X : Type 0} (xs : List X) (x : X) (i : ℕ) → i < length xs → slice_get (xs ++ x ∷ []) i ≡ slice_get xs i
got_before [] x i less = absurd (omega arith)
got_before (y ∷ xs) x zero less = refl
got_before (y ∷ xs) x (suc i) less = got_before xs x i (omega arith)

pub got_first : {X : Type 0} (xs : List X) (x : X) (i : ℕ) (y : X) → slice_get xs i ≡ Some y → slice_get (xs ++ x ∷ []) i ≡ Some y
got_first [] x i y at = cc
got_first (z ∷ xs) x zero y at = at
got_first (z ∷ xs) x (suc i) y at = got_first xs x i y at

pub got_last : {X : Type 0} (xs : List X) (x : X) → slice_get (xs ++ x ∷ []) (length xs) ≡ Some x
got_last [] x = refl
got_last (y ∷ xs) x = got_last xs x
