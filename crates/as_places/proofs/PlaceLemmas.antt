-- The place of a number in a list.
use Rattle.std.proofs.Common.{◌≡◌, ◌≢◌, ℕ, zero, suc, ◌+◌, ◌<◌, Bool, true, false, ◌||◌, ◌==◌, cond, Option, None, Some, is_some, option_map, unwrap_or, List, [], ◌∷◌, ◌++◌, length, get_or, slice_get, nat_eq, refl, sym, ◌∙◌, ap, subst, true≢false, arith}
use Rattle.std.proofs.lemmas.Cmp.{nat_eq_equiv}
use Rattle.std.proofs.lemmas.Bool.{eqb-true, eq-eqb, ltb-false, ne_eqb, or_parts, false_from_ne_true}
use Rattle.std.proofs.lemmas.List.Sums.{fails_before_first}
use Rattle.std.proofs.lemmas.List.Quantifiers.{position-Some}
use Rattle.std.proofs.lemmas.Map.Keys.{IsDistinct-push, apart_from_distinct}
use Rattle.std.specs.List.{IsDistinct, list_any, position, position_or_len}
use Rattle.net_names.specs.Numbers.{occurs}
use Rattle.as_places.specs.Places.{place_of}

-- equality of numbers tests the same on both sides
pub eqb_comm : (a b : ℕ) → (a == b) ≡ (b == a)
eqb_comm a b = by (b == a) refl
  where
    by : (t : Bool) → (b == a) ≡ t → (a == b) ≡ t
    by true e = eq-eqb a b (sym (eqb-true b a e))
    by false e = false_from_ne_true (a == b) (λ o. (let back = eq-eqb b a (sym (eqb-true a b o)) in true≢false (sym back ∙ e)))

-- the place of the first index at which the number stands
pub place_is : (xs : List ℕ) (i a : ℕ) → i < length xs → get_or xs i 0 ≡ a → ((k : ℕ) → k < i → get_or xs k 0 ≢ a) → place_of xs a ≡ Some i
place_is [] i a h e before = absurd (omega (arith, h))
place_is (y ∷ ys) zero a h e before = ap (λ b. cond b (Some 0) (option_map suc (place_of ys a))) (eq-eqb y a e)
place_is (y ∷ ys) (suc i) a h e before =
    ap (λ b. cond b (Some 0) (option_map suc (place_of ys a))) (ne_eqb y a (before 0 (omega arith)))
    ∙ ap (option_map suc) (place_is ys i a (omega (arith, h)) e (λ k less. before (suc k) (omega (arith, less))))

-- where the numbers differ, the place is the only index
pub place_at : (xs : List ℕ) → IsDistinct nat_eq xs → (i a : ℕ) → i < length xs → get_or xs i 0 ≡ a → place_of xs a ≡ Some i
place_at xs apart i a h e = place_is xs i a h e (λ k less same.
    let differ = apart_from_distinct nat_eq xs k i 0 apart less h in
    true≢false (sym (eq-eqb (get_or xs k 0) (get_or xs i 0) (same ∙ sym e)) ∙ differ))

pub place_past : (xs : List ℕ) (a : ℕ) → ((k : ℕ) → k < length xs → get_or xs k 0 ≢ a) → place_of xs a ≡ None
place_past [] a none = refl
place_past (y ∷ ys) a none =
    ap (λ b. cond b (Some 0) (option_map suc (place_of ys a))) (ne_eqb y a (none 0 (omega arith)))
    ∙ ap (option_map suc) (place_past ys a (λ k less. none (suc k) (omega (arith, less))))

pub place_none : (xs : List ℕ) (a : ℕ) → occurs a xs ≡ false → place_of xs a ≡ None
place_none [] a h = refl
place_none (y ∷ ys) a h =
    let parts = or_parts (y == a) (occurs a ys) h in
    ap (λ b. cond b (Some 0) (option_map suc (place_of ys a))) parts.0 ∙ ap (option_map suc) (place_none ys a parts.1)

-- a number has a place exactly where it stands in the list
pub has_place : (xs : List ℕ) (a : ℕ) → is_some (place_of xs a) ≡ occurs a xs
has_place [] a = refl
has_place (y ∷ ys) a = by (y == a) (place_of ys a) (has_place ys a)
  where
    by : (b : Bool) (o : Option ℕ) → is_some o ≡ occurs a ys → is_some (cond b (Some 0) (option_map suc o)) ≡ (b || occurs a ys)
    by true o ih = refl
    by false None ih = ih
    by false (Some i) ih = ih

absent : (xs : List ℕ) (a : ℕ) → place_of xs a ≡ None → occurs a xs ≡ false
absent xs a e = sym (has_place xs a) ∙ ap is_some e

-- at its place the number stands
pub at_place : (xs : List ℕ) (a i : ℕ) → place_of xs a ≡ Some i → slice_get xs i ≡ Some a
at_place [] a i e = absurd (true≢false (sym (ap is_some e)))
at_place (y ∷ ys) a i e = by (y == a) refl (place_of ys a) (λ j. at_place ys a j) e
  where
    by : (b : Bool) → (y == a) ≡ b → (o : Option ℕ) → ((j : ℕ) → o ≡ Some j → slice_get ys j ≡ Some a) → cond b (Some 0) (option_map suc o) ≡ Some i → slice_get (y ∷ ys) i ≡ Some a
    by true is o p q = subst (λ j. slice_get (y ∷ ys) j ≡ Some a) (ap (λ r. unwrap_or r 0) q) (ap Some (eqb-true y a is))
    by false is None p q = absurd (true≢false (sym (ap is_some q)))
    by false is (Some j) p q = subst (λ k. slice_get (y ∷ ys) k ≡ Some a) (ap (λ r. unwrap_or r 0) q) (p j refl)

-- the place in two lists, one after the other
pub place_append : (xs ys : List ℕ) (a : ℕ) → occurs a xs ≡ false → place_of (xs ++ ys) a ≡ option_map (λ i. length xs + i) (place_of ys a)
place_append [] ys a h = by (place_of ys a)
  where
    by : (o : Option ℕ) → o ≡ option_map (λ i. 0 + i) o
    by None = refl
    by (Some i) = ap Some (omega arith)
place_append (x ∷ xs) ys a h =
    let parts = or_parts (x == a) (occurs a xs) h in
    ap (λ b. cond b (Some 0) (option_map suc (place_of (xs ++ ys) a))) parts.0
    ∙ ap (option_map suc) (place_append xs ys a parts.1)
    ∙ by (place_of ys a)
  where
    by : (o : Option ℕ) → option_map suc (option_map (λ i. length xs + i) o) ≡ option_map (λ i. length (x ∷ xs) + i) o
    by None = refl
    by (Some i) = ap Some (omega arith)

-- a place in the first of two lists is the place in both
pub place_front : (xs ys : List ℕ) (a i : ℕ) → place_of xs a ≡ Some i → place_of (xs ++ ys) a ≡ Some i
place_front [] ys a i e = absurd (true≢false (sym (ap is_some e)))
place_front (x ∷ xs) ys a i e = by (x == a) (place_of xs a) (λ j. place_front xs ys a j) e
  where
    by : (b : Bool) (o : Option ℕ) → ((j : ℕ) → o ≡ Some j → place_of (xs ++ ys) a ≡ Some j) → cond b (Some 0) (option_map suc o) ≡ Some i → cond b (Some 0) (option_map suc (place_of (xs ++ ys) a)) ≡ Some i
    by true o ih q = q
    by false None ih q = absurd (true≢false (sym (ap is_some q)))
    by false (Some j) ih q = ap (option_map suc) (ih j refl) ∙ q

-- the place as std's search gives it
pub place_position : (xs : List ℕ) (a : ℕ) → place_of xs a ≡ position (nat_eq a) xs
place_position xs a = by (position (nat_eq a) xs) refl
  where
    past : (b : Bool) (n : ℕ) → cond b (Some n) None ≡ None → b ≡ false
    past true n e = absurd (true≢false (ap is_some e))
    past false n e = refl

    by : (r : Option ℕ) → position (nat_eq a) xs ≡ r → place_of xs a ≡ r
    by (Some i) e =
        let (less, here, before) = position-Some (nat_eq a) xs i 0 e in
        place_is xs i a less (sym (eqb-true a (get_or xs i 0) here)) (λ k low same. true≢false (sym (eq-eqb a (get_or xs k 0) (sym same)) ∙ before k low))
    by None e =
        let over = ltb-false (position_or_len (nat_eq a) xs) (length xs) (past _ (position_or_len (nat_eq a) xs) e) in
        place_past xs a (λ k less same. true≢false (sym (eq-eqb a (get_or xs k 0) (sym same)) ∙ fails_before_first (nat_eq a) xs k 0 (omega (arith, less, over))))

-- a list has the number as std's test says
pub occurs_any : (xs : List ℕ) (a : ℕ) → occurs a xs ≡ list_any (nat_eq a) xs
occurs_any [] a = refl
occurs_any (y ∷ ys) a = ap (λ b. b || occurs a ys) (eqb_comm y a) ∙ ap (λ b. nat_eq a y || b) (occurs_any ys a)

-- a number that is not in the list is new to it
pub distinct_push : (xs : List ℕ) (a : ℕ) → IsDistinct nat_eq xs → occurs a xs ≡ false → IsDistinct nat_eq (xs ++ a ∷ [])
distinct_push xs a apart none = IsDistinct-push nat_eq_equiv xs a apart (sym (occurs_any xs a) ∙ none)
