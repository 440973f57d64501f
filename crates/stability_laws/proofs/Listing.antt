-- Lists that are walked from place to place up to the first that is past their end.
use Rattle.std.proofs.Common.{◌≡◌, ℕ, zero, suc, ◌+◌, ◌-◌, ◌<◌, ◌≤◌, Bool, true, false, ◌==◌, Some, None, List, [], ◌∷◌, ◌++◌, length, take, take_all, get_or, refl, sym, ap, subst, ◌∙◌, arith, inl, inr}
use Rattle.std.specs.Prelude.{IsTrue, slice_get}
use Rattle.std.specs.Cmp.{ranked}
use Rattle.std.specs.Ordering.{nat_cmp}
use Rattle.std.specs.declared.cmp.Ordering.TheVariants.{Less}
use Rattle.std.proofs.lemmas.Bool.{cases_eq, or_cases, or_left, or_right, eqb-true, eq-eqb, false_from_ne_true}
use Rattle.std.proofs.lemmas.List.{take_more}
use Rattle.std.proofs.lemmas.Option.{slice_get_within, slice_get-get_or, get_or_from_slice_get}
use Rattle.net_names.specs.Numbers.{occurs}
use Rattle.stability_laws.specs.Plans.{ListsRising}

-- what holds at the places so far and at this one holds at the places up to the next; for callers too
pub at_next : {X : Type 0} (xs : List X) (place : ℕ) (x : X) (P : X → Type 0) → slice_get xs place ≡ Some x → P x → ((i : ℕ) (y : X) → i < place → slice_get xs i ≡ Some y → P y)
    → (i : ℕ) (y : X) → i < place + 1 → slice_get xs i ≡ Some y → P y
at_next {X} xs place x P is here before i y less at = elim (cases_eq i place) [
  | inl same ↦ (let both : Some x ≡ Some y = sym is ∙ ap (slice_get xs) (sym same) ∙ at in let one : x ≡ y = cc in subst P one here)
  | inr other ↦ before i y (omega arith) at
]

pub take_next : {X : Type 0} (xs : List X) (i : ℕ) (x : X) → slice_get xs i ≡ Some x → take (i + 1) xs ≡ take i xs ++ x ∷ []
take_next xs i x is = take_more xs i x (slice_get_within xs i x is) ∙ ap (λ y. take i xs ++ y ∷ []) (get_or_from_slice_get xs i x x is)

pub past_end : {X : Type 0} (xs : List X) (i : ℕ) → slice_get xs i ≡ None → length xs ≤ i
past_end [] i e = omega arith
past_end (x ∷ xs) zero e = cc
past_end (x ∷ xs) (suc i) e = let rest : length xs ≤ i = past_end xs i e in omega arith

-- a number in a rising list is no less than its place
pub place_le : (P : ℕ → Type 0) (xs : List ℕ) → ListsRising nat_cmp P xs → (i x : ℕ) → slice_get xs i ≡ Some x → i ≤ x
place_le P xs l zero x is = omega arith
place_le P xs l (suc i) x is =
    let within : suc i < length xs = slice_get_within xs (suc i) x is in
    let before : slice_get xs i ≡ Some (get_or xs i 0) = slice_get-get_or xs i 0 (omega arith) in
    let low : i ≤ get_or xs i 0 = place_le P xs l i (get_or xs i 0) before in
    let less : get_or xs i 0 < x = ranked (get_or xs i 0) x Less (sym (l.rises i (suc i) (get_or xs i 0) x (omega arith) before is)) in
    omega arith

-- what stands at a place has the place within the list; for callers too
pub next_place_within : {X : Type 0} (xs : List X) (place : ℕ) (x : X) → slice_get xs place ≡ Some x → place + 1 ≤ length xs
next_place_within xs place x is = let within : place < length xs = slice_get_within xs place x is in omega arith

-- less is left of a list after the place; for callers too
pub fewer_left : {X : Type 0} (xs : List X) (place : ℕ) (x : X) → slice_get xs place ≡ Some x → length xs - (place + 1) < length xs - place
fewer_left xs place x is = let within : place < length xs = slice_get_within xs place x is in omega arith

-- what is found at a place of a list that is this one; for callers too
pub found_at : {X : Type 0} (ys xs : List X) (i : ℕ) (x : X) → ys ≡ xs → i < length ys → x ≡ get_or ys i x → slice_get xs i ≡ Some x
found_at ys xs i x same less is = ap (λ zs. slice_get zs i) (sym same) ∙ slice_get-get_or ys i x less ∙ ap Some (sym is)

pub occurs_at : (xs : List ℕ) (i a : ℕ) → slice_get xs i ≡ Some a → occurs a xs ≡ true
occurs_at [] i a e = cc
occurs_at (x ∷ xs) zero a e = let same : x ≡ a = cc in or_left (x == a) (occurs a xs) (eq-eqb x a same)
occurs_at (x ∷ xs) (suc i) a e = or_right (x == a) (occurs a xs) (occurs_at xs i a e)

pub at_occurs : (xs : List ℕ) (a : ℕ) → occurs a xs ≡ true → (i : ℕ) × (slice_get xs i ≡ Some a)
at_occurs [] a o = cc
at_occurs (x ∷ xs) a o = elim (or_cases (x == a) (occurs a xs) o) [
  | inl here ↦ (0, ap (λ y. Some y) (eqb-true x a here))
  | inr later ↦ (let (i, is) = at_occurs xs a later in (suc i, is))
]

-- just those that are meant occur in a list of them, walked to its end
pub occurs-listed : (meant : ℕ → Bool) (xs : List ℕ) → ListsRising nat_cmp (λ a. IsTrue (meant a)) xs → (end : ℕ) → slice_get xs end ≡ None → (a : ℕ) → occurs a (take end xs) ≡ meant a
occurs-listed meant xs l end past a = ap (occurs a) (take_all end xs (past_end xs end past)) ∙ by (meant a) refl
  where
    by : (b : Bool) → meant a ≡ b → occurs a xs ≡ meant a
    by true e = (let (i, is) = l.whole a e in occurs_at xs i a is) ∙ sym e
    by false e = false_from_ne_true (occurs a xs) (λ o. (let (i, is) = at_occurs xs a o in let t : meant a ≡ true = l.only i a is in cc)) ∙ sym e
