-- Lists whose items are changed in place, one after the other.
use Rattle.std.proofs.Common.{◌≡◌, ◌⊎◌, inl, inr, ℕ, zero, suc, ◌+◌, ◌<◌, ◌≤◌, Option, Some, None, option_map, List, [], ◌∷◌, length, map, set, refl, sym, ap, ◌∙◌, arith}
use Rattle.std.specs.Prelude.{slice_get}
use Rattle.std.proofs.lemmas.List.{length-set}
use Rattle.std.proofs.lemmas.Option.{slice_get-map, slice_get_past, slice_get_within}

got_set : {X : Type 0} (xs : List X) (i : ℕ) (x : X) → i < length xs → slice_get (set xs i x) i ≡ Some x
got_set [] i x less = absurd (omega (arith, less))
got_set (y ∷ xs) zero x less = refl
got_set (y ∷ xs) (suc i) x less = got_set xs i x (omega (arith, less))

got_other : {X : Type 0} (xs : List X) (i j : ℕ) (x : X) → (j ≡ i → ⊥) → slice_get (set xs i x) j ≡ slice_get xs j
got_other [] i j x other = refl
got_other (y ∷ xs) zero zero x other = absurd (other refl)
got_other (y ∷ xs) zero (suc j) x other = refl
got_other (y ∷ xs) (suc i) zero x other = refl
got_other (y ∷ xs) (suc i) (suc j) x other = got_other xs i j x (λ e. other (ap suc e))

-- the items before place n are changed as P says, and the others are as they were
pub record IsWorked {X : Type 0} (P : X → X → Type 0) (old new : List X) (n : ℕ) : Type 0 where
  pub count : length new ≡ length old
  pub done : (k : ℕ) (x : X) → k < n → slice_get new k ≡ Some x → (y : X) × (slice_get old k ≡ Some y) × P y x
  pub left : (k : ℕ) → n ≤ k → slice_get new k ≡ slice_get old k

pub none_worked : {X : Type 0} (P : X → X → Type 0) (xs : List X) → IsWorked P xs xs 0
none_worked P xs = record { count = refl; done = λ k x less at. absurd (omega (arith, less)); left = λ k over. refl }

below_or : (k n : ℕ) → k < n + 1 → (k < n) ⊎ (k ≡ n)
below_or zero zero h = inr refl
below_or zero (suc n) h = inl (omega arith)
below_or (suc k) zero h = absurd (omega (arith, h))
below_or (suc k) (suc n) h = elim (below_or k n (omega (arith, h))) [ inl l ↦ inl (omega (arith, l)) | inr s ↦ inr (ap suc s) ]

-- what holds of the items before place n holds of one more
pub rows_more : {X : Type 0} (P : ℕ → X → Type 0) (mid : List X) (n : ℕ) (x : X) → n < length mid → ((k : ℕ) (z : X) → k < n → slice_get mid k ≡ Some z → P k z) → P n x → (k : ℕ) (z : X) → k < n + 1 → slice_get (set mid n x) k ≡ Some z → P k z
rows_more P mid n x less each here k z below at = elim (below_or k n below) [
  | inl earlier ↦ each k z earlier (sym (got_other mid n k x (λ e. omega (arith, earlier, e))) ∙ at)
  | inr now ↦ (
      let one : Some x ≡ Some z = sym (got_set mid n x less) ∙ (ap (slice_get (set mid n x)) (sym now) ∙ at) in
      let same : x ≡ z = cc in
      coe 0 1 (i. P (sym now i) (same i)) here)
]

-- one item more
pub one_worked : {X : Type 0} (P : X → X → Type 0) (old mid : List X) (n : ℕ) (y x : X) → IsWorked P old mid n → n < length mid → slice_get mid n ≡ Some y → P y x → IsWorked P old (set mid n x) (n + 1)
one_worked P old mid n y x so_far less at is = record {
  count = length-set mid n x ∙ so_far.count;
  done = λ k z below here. by k z below here (below_or k n below);
  left = λ k over. (let other : k ≡ n → ⊥ = λ e. omega (arith, over, e) in got_other mid n k x other ∙ so_far.left k (omega (arith, over)));
}
  where
    by : (k : ℕ) (z : _) → k < n + 1 → slice_get (set mid n x) k ≡ Some z → (k < n) ⊎ (k ≡ n) → (w : _) × (slice_get old k ≡ Some w) × P w z
    by k z below here (inl earlier) = so_far.done k z earlier (sym (got_other mid n k x (λ e. omega (arith, earlier, e))) ∙ here)
    by k z below here (inr now) =
        let there : slice_get (set mid n x) n ≡ Some z = ap (slice_get (set mid n x)) (sym now) ∙ here in
        let one : Some x ≡ Some z = sym (got_set mid n x less) ∙ there in
        let same : x ≡ z = cc in
        (y, ap (slice_get old) now ∙ sym (so_far.left n (omega arith)) ∙ at, coe 0 1 (i. P y (same i)) is)

pub more_worked : {X : Type 0} (P Q : X → X → Type 0) → ((y x : X) → P y x → Q y x) → (old new : List X) (n : ℕ) → IsWorked P old new n → IsWorked Q old new n
more_worked P Q more old new n so_far = record {
  count = so_far.count;
  done = λ k x less at. (let (y, there, is) = so_far.done k x less at in (y, there, more y x is));
  left = so_far.left;
}

same_list : {X : Type 0} (xs ys : List X) → ((k : ℕ) → slice_get xs k ≡ slice_get ys k) → xs ≡ ys
same_list [] [] h = refl
same_list [] (y ∷ ys) h = (let no : None ≡ Some y = h 0 in cc)
same_list (x ∷ xs) [] h = (let no : Some x ≡ None = h 0 in cc)
same_list (x ∷ xs) (y ∷ ys) h = (let one : Some x ≡ Some y = h 0 in let first : x ≡ y = cc in (λ i. first i ∷ same_list xs ys (λ k. h (suc k)) i))

none_there : {X : Type 0} (xs : List X) (i : ℕ) → i < length xs → slice_get xs i ≡ None → ⊥
none_there [] i h e = omega (arith, h)
none_there (x ∷ xs) zero h e = (let no : Some x ≡ None = e in cc)
none_there (x ∷ xs) (suc i) h e = none_there xs i (omega (arith, h)) e

-- what the changes keep of each item is kept of the list
pub map_worked : {X Y : Type 0} (f : X → Y) (old new : List X) (n : ℕ) → IsWorked (λ y x. f x ≡ f y) old new n → map f new ≡ map f old
map_worked f old new n so_far = same_list (map f new) (map f old) (λ k. slice_get-map f new k ∙ at k (slice_get new k) refl (side k n) ∙ sym (slice_get-map f old k))
  where
    side : (k m : ℕ) → (k < m) ⊎ (m ≤ k)
    side zero zero = inr (omega arith)
    side zero (suc m) = inl (omega arith)
    side (suc k) zero = inr (omega arith)
    side (suc k) (suc m) = elim (side k m) [ inl h ↦ inl (omega (arith, h)) | inr h ↦ inr (omega (arith, h)) ]

    at : (k : ℕ) (o : Option _) → slice_get new k ≡ o → (k < n) ⊎ (n ≤ k) → option_map f o ≡ option_map f (slice_get old k)
    at k o is (inr over) = ap (option_map f) (sym is ∙ so_far.left k over)
    at k (Some x) is (inl less) = (let (y, there, same) = so_far.done k x less is in ap (λ z. Some z) same ∙ ap (option_map f) (sym there))
    at k None is (inl less) = ap (option_map f) (sym (slice_get_past old k (past (side k (length new)))))
      where
        past : (k < length new) ⊎ (length new ≤ k) → length old ≤ k
        past (inr over) = omega (arith, over, so_far.count)
        past (inl within) = absurd (none_there new k within is)

-- what the changes make of each item holds of the list that is worked off
pub all_worked : {X : Type 0} (P : X → X → Type 0) (old new : List X) (n : ℕ) → IsWorked P old new n → length new ≤ n → (k : ℕ) (x : X) → slice_get new k ≡ Some x → (y : X) × (slice_get old k ≡ Some y) × P y x
all_worked P old new n so_far whole k x at = so_far.done k x (let within : k < length new = slice_get_within new k x at in omega (arith, within, whole)) at
