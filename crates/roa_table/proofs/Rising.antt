-- Rising lists and the sets of their elements.
use Rattle.std.proofs.Common.{◌≡◌, ℕ, zero, suc, ◌≤◌, ◌<◌, Bool, true, false, cond, not, ◌||◌, ◌&&◌, List, [], ◌∷◌, ◌++◌, map, length, take, drop, get_or, refl, sym, ap, subst, ◌∙◌, arith, Result, Ok, Err, T, Option, Some, None, is_some}
use Rattle.std.specs.Prelude.{is_ok}
use Rattle.std.specs.List.{insert, remove, list_any, list_all, filter}
use Rattle.std.specs.List.Sorted.{IsSearchInRange, IsBinarySearchResult, IsNonDecreasingBy, IsStrictlySortedBy}
use Rattle.std.specs.List.{AllByRecursion}
use Rattle.std.specs.declared.cmp.Ordering.{Ordering}
use Rattle.std.specs.declared.cmp.Ordering.TheVariants.{Less, Equal, Greater}
use Rattle.std.specs.Ordering.{is_lt, is_eq, eq_by_cmp, ordering_reverse, ordering_index}
use Rattle.std.specs.Cmp.{IsTotalOrder, tied_itself}
use Rattle.std.proofs.lemmas.Map.Lookups.{CmpEqualImpliesEq}
use Rattle.std.proofs.lemmas.List.Folds.{list_any-append}
use Rattle.std.specs.FinMap as fin
use Rattle.roa_table.specs.Lists.{is_rising}
use Rattle.net_names.proofs.Marks.{marks, keys_of_marks}
use Rattle.net_names.proofs.Rising.{mono}
use Rattle.net_names.proofs.Shortening.{both, both_true}
use Rattle.roa_table.proofs.Booleans.{list_all_mono, list_all_append, list_all_left, all_take, all_drop, or_left, or_right}
use Rattle.net_names.proofs.Shared.{is_equal as equal}

pub less : (r : Ordering) → is_lt r ≡ true → r ≡ Less
less Less e = refl
less Equal e = cc e
less Greater e = cc e

marks_of_keys : {K : Type 0} (es : List (K × Unit {0})) → marks (map (λ (e : K × Unit {0}). e.0) es) ≡ es
marks_of_keys [] = refl
marks_of_keys (e ∷ es) = ap (λ l. e ∷ l) (marks_of_keys es)

holds : (b : Bool) → b ≡ true → T b
holds b e = subst T (sym e) tt

is_true : (b : Bool) → T b → b ≡ true
is_true true p = refl
is_true false p = absurd p

module _ {K : Type 0} (R : K → K → Ordering) where
  below_is : (x : K) (xs : List K) → fin.Entries.below_all R x (marks xs) ≡ list_all (λ y. is_lt (R x y)) xs
  below_is x [] = refl
  below_is x (y ∷ ys) = ap (λ b. is_lt (R x y) && b) (below_is x ys)

  sorted_is : (xs : List K) → fin.is_sorted R (marks xs) ≡ is_rising R xs
  sorted_is [] = refl
  sorted_is (x ∷ xs) = (λ i. below_is x xs i && sorted_is xs i)

  pub rising_keys : (s : fin.FinMap R (Unit {0})) → is_rising R (fin.keys s) ≡ true
  rising_keys s = sym (sorted_is (fin.keys s)) ∙ ap (fin.is_sorted R) (marks_of_keys (fin.entries s)) ∙ is_true _ (fin.entries_sorted s)

  pub rising_append : (xs ys : List K) → is_rising R xs ≡ true → is_rising R ys ≡ true → list_all (λ x. list_all (λ y. is_lt (R x y)) ys) xs ≡ true → is_rising R (xs ++ ys) ≡ true
  rising_append [] ys h k b = k
  rising_append (x ∷ xs) ys h k b =
      let e = both _ _ h in
      let f = both _ _ b in
      both_true _ _ (list_all_append (λ y. is_lt (R x y)) xs ys e.left f.left) (rising_append xs ys e.right k f.right)

  pub rising_left : (xs ys : List K) → is_rising R (xs ++ ys) ≡ true → is_rising R xs ≡ true
  rising_left [] ys h = refl
  rising_left (x ∷ xs) ys h = let e = both _ _ h in both_true _ _ (list_all_left (λ y. is_lt (R x y)) xs ys e.left) (rising_left xs ys e.right)

  pub rising_right : (xs ys : List K) → is_rising R (xs ++ ys) ≡ true → is_rising R ys ≡ true
  rising_right [] ys h = h
  rising_right (x ∷ xs) ys h = rising_right xs ys (both _ _ h).right

  all_filter : (p q : K → Bool) (xs : List K) → list_all q xs ≡ true → list_all q (filter p xs) ≡ true
  all_filter p q [] h = refl
  all_filter p q (x ∷ xs) h = by (p x) (both _ _ h).left (all_filter p q xs (both _ _ h).right)
    where
      by : (b : Bool) → q x ≡ true → list_all q (filter p xs) ≡ true → list_all q (cond b (x ∷ filter p xs) (filter p xs)) ≡ true
      by true e f = both_true _ _ e f
      by false e f = f

  pub rising_filter : (p : K → Bool) (xs : List K) → is_rising R xs ≡ true → is_rising R (filter p xs) ≡ true
  rising_filter p [] h = refl
  rising_filter p (x ∷ xs) h = by (p x) (all_filter p (λ y. is_lt (R x y)) xs (both _ _ h).left) (rising_filter p xs (both _ _ h).right)
    where
      by : (b : Bool) → list_all (λ y. is_lt (R x y)) (filter p xs) ≡ true → is_rising R (filter p xs) ≡ true → is_rising R (cond b (x ∷ filter p xs) (filter p xs)) ≡ true
      by true e f = both_true _ _ e f
      by false e f = f

  all_less : (x : K) (xs : List K) → AllByRecursion (λ y. R x y ≡ Less) xs → list_all (λ y. is_lt (R x y)) xs ≡ true
  all_less x [] h = refl
  all_less x (y ∷ ys) h = both_true _ _ (ap is_lt h.0) (all_less x ys h.1)

  less_all : (x : K) (xs : List K) → list_all (λ y. is_lt (R x y)) xs ≡ true → AllByRecursion (λ y. R x y ≡ Less) xs
  less_all x [] h = tt
  less_all x (y ∷ ys) h = let e = both _ _ h in (less _ e.left, less_all x ys e.right)

  pub rising_from_strictly : (xs : List K) → IsStrictlySortedBy R xs → is_rising R xs ≡ true
  unfolding IsStrictlySortedBy
  rising_from_strictly [] h = refl
  rising_from_strictly (x ∷ xs) h = both_true _ _ (all_less x xs h.0) (rising_from_strictly xs h.1)

  pub strictly_from_rising : (xs : List K) → is_rising R xs ≡ true → IsStrictlySortedBy R xs
  unfolding IsStrictlySortedBy
  strictly_from_rising [] h = tt
  strictly_from_rising (x ∷ xs) h = let e = both _ _ h in (less_all x xs e.left, strictly_from_rising xs e.right)

module _ {K : Type 0} {R : K → K → Ordering} (o : IsTotalOrder R) (exact : CmpEqualImpliesEq R) where
  turned : (x y : K) (r : Ordering) → R x y ≡ r → R y x ≡ ordering_reverse r
  turned x y r e = o.antisymm y x ∙ ap ordering_reverse e

  pub tie_self : (x : K) → eq_by_cmp R x x ≡ true
  tie_self x = ap is_eq (tied_itself o x)

  pub eq_is : (q k : K) → eq_by_cmp R q k ≡ true → q ≡ k
  eq_is q k e = exact q k (equal (R q k) e)

  -- what is below a second element is below each that is not below that one
  pub lt_le : (a b c : K) → is_lt (R a b) ≡ true → is_lt (R c b) ≡ false → is_lt (R a c) ≡ true
  lt_le a b c e f = by (R c b) refl f
    where
      by : (r : Ordering) → R c b ≡ r → is_lt r ≡ false → is_lt (R a c) ≡ true
      by Less g h = cc h
      by Equal g h = ap (λ x. is_lt (R a x)) (exact c b g) ∙ e
      by Greater g h = ap is_lt (o.trans a b c (less _ e) (turned c b Greater g))

  pub le_lt : (a b c : K) → is_lt (R b a) ≡ false → is_lt (R b c) ≡ true → is_lt (R a c) ≡ true
  le_lt a b c e f = by (R b a) refl e
    where
      by : (r : Ordering) → R b a ≡ r → is_lt r ≡ false → is_lt (R a c) ≡ true
      by Less g h = cc h
      by Equal g h = ap (λ x. is_lt (R x c)) (sym (exact b a g)) ∙ f
      by Greater g h = ap is_lt (o.trans a b c (turned b a Greater g) (less _ f))

  pub lt_trans : (a b c : K) → is_lt (R a b) ≡ true → is_lt (R b c) ≡ true → is_lt (R a c) ≡ true
  lt_trans a b c e f = ap is_lt (o.trans a b c (less _ e) (less _ f))

  pub lt_not : (a b : K) → is_lt (R a b) ≡ true → is_lt (R b a) ≡ false
  lt_not a b e = ap is_lt (turned a b Less (less _ e))

  pub lt_not_tied : (a b : K) → is_lt (R a b) ≡ true → eq_by_cmp R a b ≡ false
  lt_not_tied a b e = ap is_eq (less _ e)

  pub gt_not_tied : (a b : K) → is_lt (R b a) ≡ true → eq_by_cmp R a b ≡ false
  gt_not_tied a b e = ap is_eq (turned b a Less (less _ e))

  -- where neither is below the other, they are tied
  pub tied : (a b : K) → is_lt (R a b) ≡ false → is_lt (R b a) ≡ false → eq_by_cmp R a b ≡ true
  tied a b e f = by (R a b) refl e f
    where
      by : (r : Ordering) → R a b ≡ r → is_lt r ≡ false → is_lt (R b a) ≡ false → is_eq (R a b) ≡ true
      by Less g h k = cc h
      by Equal g h k = ap is_eq g
      by Greater g h k = cc (k, ap is_lt (turned a b Greater g))

  below_at : (x : K) (xs : List K) (j : ℕ) (d : K) → list_all (λ y. is_lt (R x y)) xs ≡ true → j < length xs → R x (get_or xs j d) ≡ Less
  below_at x [] j d h lt = absurd (omega (arith, lt))
  below_at x (y ∷ ys) zero d h lt = less (R x y) (both _ _ h).left
  below_at x (y ∷ ys) (suc j) d h lt = below_at x ys j d (both _ _ h).right (omega (arith, lt))

  -- of two elements the first is below the second
  pub rising_at : (xs : List K) → is_rising R xs ≡ true → (i j : ℕ) (d : K) → i < j → j < length xs → is_lt (R (get_or xs i d) (get_or xs j d)) ≡ true
  rising_at [] h i j d lt inside = absurd (omega (arith, inside))
  rising_at (x ∷ xs) h i zero d lt inside = absurd (omega (arith, lt))
  rising_at (x ∷ xs) h zero (suc j) d lt inside = ap is_lt (below_at x xs j d (both _ _ h).left (omega (arith, inside)))
  rising_at (x ∷ xs) h (suc i) (suc j) d lt inside = rising_at xs (both _ _ h).right i j d (omega (arith, lt)) (omega (arith, inside))

  rises : (k : K) (xs : List K) → is_rising R xs ≡ true → IsNonDecreasingBy (λ y. ordering_index (R y k)) xs
  rises k [] h i j d le lt = absurd (omega (arith, lt))
  rises k (x ∷ xs) h zero zero d le lt = omega arith
  rises k (x ∷ xs) h zero (suc j) d le lt = mono R o exact x (get_or xs j d) k (below_at x xs j d (both _ _ h).left (omega (arith, lt)))
  rises k (x ∷ xs) h (suc i) zero d le lt = absurd (omega (arith, le))
  rises k (x ∷ xs) h (suc i) (suc j) d le lt = rises k xs (both _ _ h).right i j d (omega (arith, le)) (omega (arith, lt))

  -- where a search for k ended without it
  pub record IsGap (xs : List K) (k : K) (at : ℕ) : Type 0 where
    pub inside : at ≤ length xs
    pub below : list_all (λ y. is_lt (R y k)) (take at xs) ≡ true
    pub above : list_all (λ y. is_lt (R k y)) (drop at xs) ≡ true

  -- where it found it
  pub record IsPlace (xs : List K) (k : K) (at : ℕ) : Type 0 where
    pub inside : at < length xs
    pub here : get_or xs at k ≡ k

  -- what a binary search answers
  pub place_by : (xs : List K) (k : K) (at : ℕ) → IsSearchInRange (Ok at) (length xs) → IsBinarySearchResult (λ y. R y k) xs (Ok at) → IsPlace xs k at
  place_by xs k at a b = record { inside = a; here = exact (get_or xs at k) k (b k) }

  pub gap_by : (xs : List K) (k : K) (at : ℕ) → is_rising R xs ≡ true → IsSearchInRange (Err at) (length xs) → IsBinarySearchResult (λ y. R y k) xs (Err at) → IsGap xs k at
  gap_by xs k at h a b =
      let p = b (rises k xs h) in
      record {
        inside = a;
        below = all_take (λ y. is_lt (R y k)) xs at a (λ j d lt. ap is_lt (p.0 j d (omega arith) lt));
        above = all_drop (λ y. is_lt (R k y)) xs at (λ j d le lt. ap is_lt (turned (get_or xs j d) k Greater (p.1 j d le lt)));
      }

  place_after : (x : K) (xs : List K) (k : K) (at : ℕ) → IsPlace (x ∷ xs) k (suc at) → IsPlace xs k at
  place_after x xs k at p = record { inside = omega (arith, p.inside); here = p.here }

  absent : (xs : List K) (k : K) (at : ℕ) → IsGap xs k at → list_any (eq_by_cmp R k) xs ≡ false
  absent xs k at g =
      ap (list_any (eq_by_cmp R k)) (sym (whole at xs)) ∙ list_any-append (eq_by_cmp R k) (take at xs) (drop at xs)
      ∙ (λ i. none_below (take at xs) g.below i || none_above (drop at xs) g.above i)
    where
      whole : (n : ℕ) (ys : List K) → take n ys ++ drop n ys ≡ ys
      whole zero [] = refl
      whole zero (y ∷ ys) = refl
      whole (suc n) [] = refl
      whole (suc n) (y ∷ ys) = ap (λ l. y ∷ l) (whole n ys)

      none_below : (ys : List K) → list_all (λ y. is_lt (R y k)) ys ≡ true → list_any (eq_by_cmp R k) ys ≡ false
      none_below [] h = refl
      none_below (y ∷ ys) h = let e = both _ _ h in (λ i. gt_not_tied k y e.left i || none_below ys e.right i)

      none_above : (ys : List K) → list_all (λ y. is_lt (R k y)) ys ≡ true → list_any (eq_by_cmp R k) ys ≡ false
      none_above [] h = refl
      none_above (y ∷ ys) h = let e = both _ _ h in (λ i. lt_not_tied k y e.left i || none_above ys e.right i)

  there : (xs : List K) (k : K) (at : ℕ) → IsPlace xs k at → list_any (eq_by_cmp R k) xs ≡ true
  there [] k at p = absurd (omega (arith, p.inside))
  there (x ∷ xs) k zero p = ap (λ y. eq_by_cmp R k y || list_any (eq_by_cmp R k) xs) p.here ∙ or_left _ _ (tie_self k)
  there (x ∷ xs) k (suc at) p = or_right (eq_by_cmp R k x) _ (there xs k at (place_after x xs k at p))

  pub found_by : (xs : List K) (k : K) (r : Result ℕ ℕ) → is_rising R xs ≡ true → IsSearchInRange r (length xs) → IsBinarySearchResult (λ y. R y k) xs r → is_ok r ≡ list_any (eq_by_cmp R k) xs
  found_by xs k (Ok at) h a b = sym (there xs k at (place_by xs k at a b))
  found_by xs k (Err at) h a b = sym (absent xs k at (gap_by xs k at h a b))

  across : (xs ys : List K) (k : K) → list_all (λ y. is_lt (R y k)) xs ≡ true → list_all (λ y. is_lt (R k y)) ys ≡ true → list_all (λ x. list_all (λ y. is_lt (R x y)) (k ∷ ys)) xs ≡ true
  across xs ys k h e = list_all_mono (λ y. is_lt (R y k)) (λ x. list_all (λ y. is_lt (R x y)) (k ∷ ys)) (λ x l. both_true _ _ l (list_all_mono (λ y. is_lt (R k y)) (λ y. is_lt (R x y)) (λ y m. lt_trans x k y l m) ys e)) xs h

  cut : (at : ℕ) (xs : List K) → is_rising R xs ≡ true → is_rising R (take at xs) ≡ true
  cut zero [] h = refl
  cut zero (x ∷ xs) h = refl
  cut (suc at) [] h = refl
  cut (suc at) (x ∷ xs) h = let e = both _ _ h in both_true _ _ (some_of at xs e.left) (cut at xs e.right)
    where
      some_of : (n : ℕ) (ys : List K) → list_all (λ y. is_lt (R x y)) ys ≡ true → list_all (λ y. is_lt (R x y)) (take n ys) ≡ true
      some_of zero [] h = refl
      some_of zero (y ∷ ys) h = refl
      some_of (suc n) [] h = refl
      some_of (suc n) (y ∷ ys) h = let e = both _ _ h in both_true _ _ e.left (some_of n ys e.right)

  pub rising_take : (at : ℕ) (xs : List K) → is_rising R xs ≡ true → is_rising R (take at xs) ≡ true
  rising_take = cut

  pub rising_drop : (at : ℕ) (xs : List K) → is_rising R xs ≡ true → is_rising R (drop at xs) ≡ true
  rising_drop zero [] h = refl
  rising_drop zero (x ∷ xs) h = h
  rising_drop (suc at) [] h = refl
  rising_drop (suc at) (x ∷ xs) h = rising_drop at xs (both _ _ h).right

  -- an element put in its gap leaves the list rising, and so does one that is taken out
  pub rising_insert : (xs : List K) (k : K) (at : ℕ) → is_rising R xs ≡ true → IsGap xs k at → is_rising R (insert xs at k) ≡ true
  rising_insert xs k at h g =
      rising_append R (take at xs) (k ∷ drop at xs) (rising_take at xs h) (both_true _ _ g.above (rising_drop at xs h)) (across (take at xs) (drop at xs) k g.below g.above)

  pub rising_remove : (xs : List K) (at : ℕ) → is_rising R xs ≡ true → is_rising R (remove xs at) ≡ true
  rising_remove [] zero h = refl
  rising_remove [] (suc at) h = refl
  rising_remove (x ∷ xs) zero h = rising_drop 1 (x ∷ xs) h
  rising_remove (x ∷ xs) (suc at) h = let e = both _ _ h in both_true _ _ (without at xs e.left) (rising_remove xs at e.right)
    where
      without : (n : ℕ) (ys : List K) → list_all (λ y. is_lt (R x y)) ys ≡ true → list_all (λ y. is_lt (R x y)) (remove ys n) ≡ true
      without zero [] h = refl
      without zero (y ∷ ys) h = (both _ _ h).right
      without (suc n) [] h = refl
      without (suc n) (y ∷ ys) h = let e = both _ _ h in both_true _ _ e.left (without n ys e.right)

  -- who is in the list afterwards
  pub any_insert : (q k : K) (xs : List K) (at : ℕ) → list_any (eq_by_cmp R q) (insert xs at k) ≡ (eq_by_cmp R q k || list_any (eq_by_cmp R q) xs)
  any_insert q k [] zero = refl
  any_insert q k [] (suc at) = refl
  any_insert q k (x ∷ xs) zero = refl
  any_insert q k (x ∷ xs) (suc at) = ap (λ b. eq_by_cmp R q x || b) (any_insert q k xs at) ∙ swap (eq_by_cmp R q x) (eq_by_cmp R q k) _
    where
      swap : (a b c : Bool) → (a || (b || c)) ≡ (b || (a || c))
      swap true true c = refl
      swap true false c = refl
      swap false b c = refl

  pub any_remove : (q k : K) (xs : List K) (at : ℕ) → is_rising R xs ≡ true → IsPlace xs k at → list_any (eq_by_cmp R q) (remove xs at) ≡ (not (eq_by_cmp R q k) && list_any (eq_by_cmp R q) xs)
  any_remove q k [] at h p = absurd (omega (arith, p.inside))
  any_remove q k (x ∷ xs) zero h p = by (eq_by_cmp R q k) refl
    where
      none : (ys : List K) → list_all (λ y. is_lt (R x y)) ys ≡ true → q ≡ x → list_any (eq_by_cmp R q) ys ≡ false
      none [] a e = refl
      none (y ∷ ys) a e = let f = both _ _ a in (λ i. (ap (λ z. eq_by_cmp R z y) e ∙ lt_not_tied x y f.left) i || none ys f.right e i)

      by : (b : Bool) → eq_by_cmp R q k ≡ b → list_any (eq_by_cmp R q) xs ≡ (not b && (eq_by_cmp R q x || list_any (eq_by_cmp R q) xs))
      by true e = none xs (both _ _ h).left (eq_is q k e ∙ sym p.here)
      by false e = sym (ap (λ y. eq_by_cmp R q y || list_any (eq_by_cmp R q) xs) p.here ∙ ap (λ b. b || list_any (eq_by_cmp R q) xs) e)
  any_remove q k (x ∷ xs) (suc at) h p =
      let e = both _ _ h in
      ap (λ b. eq_by_cmp R q x || b) (any_remove q k xs at e.right (place_after x xs k at p))
      ∙ by (eq_by_cmp R q k) refl
    where
      at_least : (d : K) (n : ℕ) (ys : List K) → list_all (λ y. is_lt (R x y)) ys ≡ true → n < length ys → is_lt (R x (get_or ys n d)) ≡ true
      at_least d n [] a lt = absurd (omega (arith, lt))
      at_least d zero (y ∷ ys) a lt = (both _ _ a).left
      at_least d (suc n) (y ∷ ys) a lt = at_least d n ys (both _ _ a).right (omega (arith, lt))

      by : (b : Bool) → eq_by_cmp R q k ≡ b → (eq_by_cmp R q x || (not b && list_any (eq_by_cmp R q) xs)) ≡ (not b && (eq_by_cmp R q x || list_any (eq_by_cmp R q) xs))
      by false e = refl
      by true e =
          let low : is_lt (R x q) ≡ true = ap (λ z. is_lt (R x z)) (eq_is q k e ∙ sym p.here) ∙ at_least k at xs (both _ _ h).left (place_after x xs k at p).inside in
          ap (λ b. b || false) (gt_not_tied q x low)

  unit_some : (x y : Option (Unit {0})) → is_some x ≡ is_some y → x ≡ y
  unit_some None None e = refl
  unit_some None (Some v) e = cc e
  unit_some (Some u) None e = cc e
  unit_some (Some u) (Some v) e = refl

  -- two sets with the same members are equal
  pub same_members : (s t : fin.FinMap R (Unit {0})) → ((q : K) → fin.contains_key s q ≡ fin.contains_key t q) → s ≡ t
  same_members s t h = fin.same_map o exact s t (λ q. unit_some _ _ (h q))

  -- the members after an insertion, and after a removal
  pub contains_insert : (s : fin.FinMap R (Unit {0})) (k q : K) → fin.contains_key (fin.insert s k tt) q ≡ (eq_by_cmp R q k || fin.contains_key s q)
  contains_insert s k q = ap is_some (fin.get-insert o s k tt q) ∙ by (eq_by_cmp R q k)
    where
      by : (b : Bool) → is_some (cond b (Some tt) (fin.get s q)) ≡ (b || fin.contains_key s q)
      by true = refl
      by false = refl

  pub contains_remove : (s : fin.FinMap R (Unit {0})) (k q : K) → fin.contains_key (fin.remove s k) q ≡ (not (eq_by_cmp R q k) && fin.contains_key s q)
  contains_remove s k q = ap is_some (fin.get-remove o s k q) ∙ by (eq_by_cmp R q k)
    where
      by : (b : Bool) → is_some (cond b None (fin.get s q)) ≡ (not b && fin.contains_key s q)
      by true = refl
      by false = refl

  -- putting in what is there changes nothing
  pub insert_there : (s : fin.FinMap R (Unit {0})) (k : K) → fin.contains_key s k ≡ true → fin.insert s k tt ≡ s
  insert_there s k h = same_members _ _ (λ q. contains_insert s k q ∙ by q (eq_by_cmp R q k) refl)
    where
      by : (q : K) (b : Bool) → eq_by_cmp R q k ≡ b → (b || fin.contains_key s q) ≡ fin.contains_key s q
      by q true e = sym (ap (fin.contains_key s) (eq_is q k e) ∙ h)
      by q false e = refl

  -- taking out what is not there changes nothing
  pub remove_absent : (s : fin.FinMap R (Unit {0})) (k : K) → fin.contains_key s k ≡ false → fin.remove s k ≡ s
  remove_absent s k h = same_members _ _ (λ q. contains_remove s k q ∙ by q (eq_by_cmp R q k) refl)
    where
      by : (q : K) (b : Bool) → eq_by_cmp R q k ≡ b → (not b && fin.contains_key s q) ≡ fin.contains_key s q
      by q true e = sym (ap (fin.contains_key s) (eq_is q k e) ∙ h)
      by q false e = refl

  find_member : (q : K) (xs : List K) → is_some (fin.find R q (marks xs)) ≡ list_any (eq_by_cmp R q) xs
  find_member q [] = refl
  find_member q (x ∷ xs) = by (eq_by_cmp R q x) (find_member q xs)
    where
      by : (b : Bool) → is_some (fin.find R q (marks xs)) ≡ list_any (eq_by_cmp R q) xs → is_some (cond b (Some tt) (fin.find R q (marks xs))) ≡ (b || list_any (eq_by_cmp R q) xs)
      by true e = refl
      by false e = e

  -- two rising lists of the same elements are equal
  pub same_lists : (xs ys : List K) → is_rising R xs ≡ true → is_rising R ys ≡ true → ((q : K) → list_any (eq_by_cmp R q) xs ≡ list_any (eq_by_cmp R q) ys) → xs ≡ ys
  same_lists xs ys h k e =
      sym (keys_of_marks xs)
      ∙ ap (map (λ (x : K × Unit {0}). x.0)) (fin.Entries.same_entries R o exact (marks xs) (marks ys) (holds _ (sorted_is R xs ∙ h)) (holds _ (sorted_is R ys ∙ k))
      (λ q. unit_some _ _ (find_member q xs ∙ e q ∙ sym (find_member q ys))))
      ∙ keys_of_marks ys

  pub any_filter : (p : K → Bool) (xs : List K) (q : K) → list_any (eq_by_cmp R q) (filter p xs) ≡ (list_any (eq_by_cmp R q) xs && p q)
  any_filter p [] q = refl
  any_filter p (x ∷ xs) q = by (p x) refl (eq_by_cmp R q x) refl (any_filter p xs q)
    where
      and_no : (a : Bool) → (a && false) ≡ false
      and_no true = refl
      and_no false = refl

      by : (b : Bool) → p x ≡ b → (c : Bool) → eq_by_cmp R q x ≡ c → list_any (eq_by_cmp R q) (filter p xs) ≡ (list_any (eq_by_cmp R q) xs && p q)
          → list_any (eq_by_cmp R q) (cond b (x ∷ filter p xs) (filter p xs)) ≡ ((c || list_any (eq_by_cmp R q) xs) && p q)
      by true e true f h = ap (λ b. b || list_any (eq_by_cmp R q) (filter p xs)) f ∙ sym (ap p (eq_is q x f) ∙ e)
      by true e false f h = ap (λ b. b || list_any (eq_by_cmp R q) (filter p xs)) f ∙ h
      by false e true f h =
          let no : p q ≡ false = ap p (eq_is q x f) ∙ e in
          h ∙ ap (λ b. list_any (eq_by_cmp R q) xs && b) no ∙ and_no (list_any (eq_by_cmp R q) xs) ∙ sym no
      by false e false f h = h
