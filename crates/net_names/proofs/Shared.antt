-- Small statements that proofs of several crates cite, each once.
use Rattle.std.proofs.Common.{◌≡◌, ◌⊎◌, inl, inr, ℕ, zero, suc, ◌<◌, ◌≤◌, Bool, true, false, ◌==◌, ◌||◌, ◌&&◌, Option, None, Some, is_some, Result, Ok, Err, List, [], ◌∷◌, ◌++◌, length, get_or, take, map, refl, sym, ap, arith, ◌∙◌}
use Rattle.std.proofs.lemmas.Bool.{cases_Bool, cases_order, or_cases, or_parts, or_from, or_left, or_right, eqb-true, eq-eqb}
use Rattle.std.proofs.lemmas.List.Folds.{list_any-append}
use Rattle.std.proofs.lemmas.List.Kept.{AllPairs-from_increasing}
use Rattle.std.specs.List.Sorted.{IsStrictlyIncreasing}
use Rattle.std.specs.Ordering.{eq_by_cmp, is_eq, ordering_then}
use Rattle.std.specs.declared.cmp.Ordering.{Ordering}
use Rattle.std.specs.declared.cmp.Ordering.TheVariants.{Less, Equal, Greater}
use Rattle.std.specs.Result.{OnErr}
use Rattle.net_names.specs.Links.{pair_cmp}
use Rattle.net_names.specs.Numbers.{occurs, IsDistinct, last_or}
use Rattle.net_names.proofs.Pairs.{exact_pair}

-- ---- tests

pub or_false : (b : Bool) → (b || false) ≡ b
or_false true = refl
or_false false = refl

pub or_assoc : (a b c : Bool) → ((a || b) || c) ≡ (a || (b || c))
or_assoc true b c = refl
or_assoc false b c = refl

pub or_swap : (a b c : Bool) → (a || (b || c)) ≡ (b || (a || c))
or_swap true true c = refl
or_swap true false c = refl
or_swap false b c = refl

-- two tests that follow from each other are equal
pub same_test : (a b : Bool) → (a ≡ true → b ≡ true) → (b ≡ true → a ≡ true) → a ≡ b
same_test true b f g = sym (f refl)
same_test false true f g = g refl
same_test false false f g = refl

-- ---- options and results

pub none_from : {X : Type 0} (o : Option X) → is_some o ≡ false → o ≡ None
none_from None h = refl
none_from (Some x) h = cc

-- what holds anyhow holds on an error
pub on_err : {T E P : Type 0} (r : Result T E) → P → OnErr r P
on_err (Ok x) p = tt
on_err (Err e) p = p

-- ---- orders

pub is_equal : (r : Ordering) → is_eq r ≡ true → r ≡ Equal
is_equal Less h = cc
is_equal Equal h = refl
is_equal Greater h = cc

pub then_tied : (r s : Ordering) → is_eq (ordering_then r s) ≡ (is_eq r && is_eq s)
then_tied Less s = refl
then_tied Equal s = refl
then_tied Greater s = refl

-- only equal pairs tie
pub same_pair : (p q : ℕ × ℕ) → eq_by_cmp pair_cmp p q ≡ true → p ≡ q
same_pair p q e = exact_pair p q (is_equal _ e)

pub not_falling : (xs : List ℕ) → IsStrictlyIncreasing xs → (i j : ℕ) → i ≤ j → j < length xs → get_or xs i 0 ≤ get_or xs j 0
not_falling xs rising i j le less = elim (cases_order i j) [
  | inl e ↦ (let same : get_or xs i 0 ≡ get_or xs j 0 = ap (λ k. get_or xs k 0) e in omega arith)
  | inr (inl below) ↦ (let rises : get_or xs i 0 < get_or xs j 0 = AllPairs-from_increasing xs rising i j 0 below less in omega arith)
  | inr (inr above) ↦ absurd (omega arith)
]

-- ---- lists

pub take-take : {X : Type 0} (k n : ℕ) (xs : List X) → k ≤ n → take k (take n xs) ≡ take k xs
take-take zero n xs le = refl
take-take (suc k) zero xs le = absurd (omega (arith, le))
take-take (suc k) (suc n) [] le = refl
take-take (suc k) (suc n) (x ∷ xs) le = ap (λ ys. x ∷ ys) (take-take k n xs (omega (arith, le)))

pub map-map : {X Y Z : Type 0} (f : X → Y) (g : Y → Z) (xs : List X) → map g (map f xs) ≡ map (λ x. g (f x)) xs
map-map f g [] = refl
map-map f g (x ∷ xs) = ap (λ ys. g (f x) ∷ ys) (map-map f g xs)

-- ---- which numbers stand in a list

pub occurs_head : (x : ℕ) (xs : List ℕ) → occurs x (x ∷ xs) ≡ true
occurs_head x xs = or_left (x == x) (occurs x xs) (eq-eqb x x refl)

pub occurs_rest : (x y : ℕ) (xs : List ℕ) → occurs x xs ≡ true → occurs x (y ∷ xs) ≡ true
occurs_rest x y xs o = or_right (y == x) (occurs x xs) o

pub occurs_cons : (x y : ℕ) (xs : List ℕ) → occurs x (y ∷ xs) ≡ true → (y ≡ x) ⊎ (occurs x xs ≡ true)
occurs_cons x y xs o = elim (or_cases (y == x) (occurs x xs) o) [ inl e ↦ inl (eqb-true y x e) | inr e ↦ inr e ]

-- what stands in the list stands at an index
pub occurs_index : (x : ℕ) (xs : List ℕ) → occurs x xs ≡ true → (i : ℕ) × (i < length xs) × (get_or xs i 0 ≡ x)
occurs_index x [] o = cc
occurs_index x (y ∷ ys) o = elim (occurs_cons x y ys o) [
  | inl e ↦ (0, omega arith, e)
  | inr e ↦ (let (i, less, is) = occurs_index x ys e in (suc i, omega (arith, less), is))
]

pub occurs_right : (x : ℕ) (xs ys : List ℕ) → occurs x ys ≡ true → occurs x (xs ++ ys) ≡ true
occurs_right x [] ys h = h
occurs_right x (z ∷ xs) ys h = or_right (z == x) _ (occurs_right x xs ys h)

pub occurs_push : (z : ℕ) (xs : List ℕ) (x : ℕ) → occurs z (xs ++ x ∷ []) ≡ true → (occurs z xs ≡ true) ⊎ (x ≡ z)
occurs_push z xs x h = elim (or_cases (occurs z xs) (occurs z (x ∷ [])) (sym (list_any-append (λ y. y == z) xs (x ∷ [])) ∙ h)) [
  | inl e ↦ inl e
  | inr e ↦ (elim (or_cases (x == z) false e) [ inl is ↦ inr (eqb-true x z is) | inr is ↦ cc ])
]

pub occurs_before : (z : ℕ) (xs : List ℕ) (x : ℕ) → occurs z xs ≡ true → occurs z (xs ++ x ∷ []) ≡ true
occurs_before z xs x h = list_any-append (λ y. y == z) xs (x ∷ []) ∙ or_left (occurs z xs) _ h

pub occurs_last : (xs : List ℕ) (x : ℕ) → occurs x (xs ++ x ∷ []) ≡ true
occurs_last xs x = occurs_right x xs (x ∷ []) (occurs_head x [])

pub distinct_push : (xs : List ℕ) (x : ℕ) → IsDistinct xs → occurs x xs ≡ false → IsDistinct (xs ++ x ∷ [])
distinct_push [] x d o = (refl, tt)
distinct_push (y ∷ ys) x d o =
    let parts = or_parts (y == x) (occurs x ys) o in (
      list_any-append (λ z. z == y) ys (x ∷ []) ∙ or_from (occurs y ys) _ d.0 (or_from (x == y) false (other parts.0) refl),
      distinct_push ys x d.1 parts.1,
    )
  where
    other : (y == x) ≡ false → (x == y) ≡ false
    other e = elim (cases_Bool (x == y)) [ inl is ↦ (let here : (y == x) ≡ true = eq-eqb y x (sym (eqb-true x y is)) in cc) | inr is ↦ is ]

pub last_or_push : (d : ℕ) (xs : List ℕ) (x : ℕ) → last_or d (xs ++ x ∷ []) ≡ x
last_or_push d [] x = refl
last_or_push d (y ∷ ys) x = last_or_push y ys x
