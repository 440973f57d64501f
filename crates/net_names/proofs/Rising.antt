-- A list whose keys rise: where a search for a key ends, and what a change there does to the entries.
use Rattle.std.proofs.Common.{◌≡◌, ℕ, zero, suc, ◌-◌, ◌≤◌, ◌<◌, Bool, true, false, ◌&&◌, List, [], ◌∷◌, map, length, get_or, set, refl, sym, ap, subst, ◌∙◌, arith, Ok, Err, T, Some, None}
use Rattle.std.specs.List.{insert, list_all, AllByRecursion, HoldsAt}
use Rattle.std.specs.List.Sorted.{IsSearchInRange, IsBinarySearchResult, IsNonDecreasingBy, IsStrictlySortedBy}
use Rattle.std.specs.Map.{keys_of}
use Rattle.std.specs.declared.cmp.Ordering.{Ordering}
use Rattle.std.specs.declared.cmp.Ordering.TheVariants.{Less, Equal, Greater}
use Rattle.std.specs.Ordering.{is_lt, ordering_reverse, ordering_index}
use Rattle.std.specs.Cmp.{IsTotalOrder}
use Rattle.std.proofs.lemmas.Bool.{and_parts}
use Rattle.std.proofs.lemmas.Map.Keys.{sorted_head, sorted_tail}
use Rattle.std.proofs.lemmas.Map.Lookups.{CmpEqualImpliesEq}
use Rattle.std.specs.FinMap as fin

pub less : (r : Ordering) → T (is_lt r) → r ≡ Less
less Less p = refl
less Equal p = absurd p
less Greater p = absurd p

pub left : (a b : Bool) → T (a && b) → T a
left true b p = tt
left false b p = p

pub right : (a b : Bool) → T (a && b) → T b
right true b p = p
right false b p = absurd p

pub both : (a b : Bool) → T a → T b → T (a && b)
both true b p q = q
both false b p q = p

index_high : (r : Ordering) → ordering_index r ≤ 2
index_high Less = omega arith
index_high Equal = omega arith
index_high Greater = omega arith

index_low : (r : Ordering) → ordering_index r ≤ 0 → r ≡ Less
index_low Less h = refl
index_low Equal h = absurd (omega (arith, h))
index_low Greater h = absurd (omega (arith, h))

-- where the last is below, all are
pub all_below : {X : Type 0} (ord : X → Ordering) (xs : List X) → HoldsAt (λ x. ord x ≡ Less) xs (length xs - 1) → IsBinarySearchResult ord xs (Err (length xs))
all_below ord xs last rising = (
  λ j d le lt. index_low _ (subst (λ r. ordering_index (ord (get_or xs j d)) ≤ ordering_index r) (last d) (rising j (length xs - 1) d (omega (arith, lt)) (omega (arith, lt)))),
  λ j d le lt. absurd (omega (arith, le, lt)),
)

pub all_insert : {X : Type 0} (p : X → Bool) (xs : List X) (i : ℕ) (x : X) → list_all p xs ≡ true → p x ≡ true → list_all p (insert xs i x) ≡ true
all_insert p xs zero x all here = rw (here, all) refl
all_insert p [] (suc i) x all here = rw here refl
all_insert p (y ∷ ys) (suc i) x all here = let a = and_parts (p y) (list_all p ys) all in rw (a.0, all_insert p ys i x a.1 here) refl

pub all_set : {X : Type 0} (p : X → Bool) (xs : List X) (i : ℕ) (x : X) → list_all p xs ≡ true → p x ≡ true → list_all p (set xs i x) ≡ true
all_set p [] i x all here = refl
all_set p (y ∷ ys) zero x all here = let a = and_parts (p y) (list_all p ys) all in rw (here, a.1) refl
all_set p (y ∷ ys) (suc i) x all here = let a = and_parts (p y) (list_all p ys) all in rw (a.0, all_set p ys i x a.1 here) refl

pub all_at : {X : Type 0} (p : X → Bool) (xs : List X) (i : ℕ) (d : X) → list_all p xs ≡ true → i < length xs → p (get_or xs i d) ≡ true
all_at p [] i d all lt = absurd (omega (arith, lt))
all_at p (y ∷ ys) zero d all lt = (and_parts (p y) (list_all p ys) all).0
all_at p (y ∷ ys) (suc i) d all lt = all_at p ys i d (and_parts (p y) (list_all p ys) all).1 (omega (arith, lt))

module _ {K X : Type 0} (R : K → K → Ordering) where
  is_below : (k : K) (es : List (K × X)) → AllByRecursion (λ q. R k q ≡ Less) (keys_of es) → T (fin.Entries.below_all R k es)
  is_below k [] h = tt
  is_below k (e ∷ es) h = rw h.0 (is_below k es h.1)

  is_less : (k : K) (es : List (K × X)) → T (fin.Entries.below_all R k es) → AllByRecursion (λ q. R k q ≡ Less) (map (λ (e : K × X). e.0) es)
  is_less k [] h = tt
  is_less k (e ∷ es) h = (less (R k e.0) (left (is_lt (R k e.0)) (fin.Entries.below_all R k es) h), is_less k es (right (is_lt (R k e.0)) (fin.Entries.below_all R k es) h))

  -- the keys of entries in order rise
  pub strict_entries : (es : List (K × X)) → T (fin.is_sorted R es) → IsStrictlySortedBy R (map (λ (e : K × X). e.0) es)
  unfolding IsStrictlySortedBy
  strict_entries [] h = tt
  strict_entries (e ∷ es) h = (is_less e.0 es (left (fin.Entries.below_all R e.0 es) (fin.is_sorted R es) h), strict_entries es (right (fin.Entries.below_all R e.0 es) (fin.is_sorted R es) h))

  -- entries whose keys rise are those of a map
  pub rises_strictly : (es : List (K × X)) → IsStrictlySortedBy R (keys_of es) → T (fin.is_sorted R es)
  rises_strictly [] h = tt
  rises_strictly (e ∷ es) h = both _ _ (is_below e.0 es (sorted_head R e.0 (keys_of es) h)) (rises_strictly es (sorted_tail R e.0 (keys_of es) h))

module _ {K : Type 0} (R : K → K → Ordering) (o : IsTotalOrder R) (exact : CmpEqualImpliesEq R) where
  -- what the other way round is compared as
  pub turned : (x y : K) (r : Ordering) → R x y ≡ r → R y x ≡ ordering_reverse r
  turned x y r e = o.antisymm y x ∙ ap ordering_reverse e

  -- a lower key is compared no higher
  pub mono : (x y k : K) → R x y ≡ Less → ordering_index (R x k) ≤ ordering_index (R y k)
  mono x y k e =
      elim (R y k) as (λ r. R y k ≡ r → ordering_index (R x k) ≤ ordering_index r) [
        | Less ↦ λ f. subst (λ r. ordering_index r ≤ 0) (sym (o.trans x y k e f)) (omega arith)
        | Equal ↦ λ f. subst (λ r. ordering_index r ≤ 1) (sym (ap (R x) (sym (exact y k f)) ∙ e)) (omega arith)
        | Greater ↦ λ f. index_high (R x k)
      ] refl

module _ {L K X : Type 0} (R : K → K → Ordering) (key : L → K) (value : L → X) where
  -- the entries that the elements make
  abbrev pub pairs : List L → List (K × X)
  pairs = map (λ l. (key l, value l))

  abbrev pub IsRising : List L → Type 0
  IsRising xs = T (fin.is_sorted R (pairs xs))

  -- where a search for k ended without it
  pub record IsGap (xs : List L) (k : K) (at : ℕ) : Type 0 where
    pub inside : at ≤ length xs
    pub below : (j : ℕ) (d : L) → j < at → j < length xs → R (key (get_or xs j d)) k ≡ Less
    pub above : (j : ℕ) (d : L) → at ≤ j → j < length xs → R (key (get_or xs j d)) k ≡ Greater

  -- where it found it
  pub record IsPlace (xs : List L) (k : K) (at : ℕ) : Type 0 where
    pub inside : at < length xs
    pub here : (d : L) → R (key (get_or xs at d)) k ≡ Equal

  gap_after : (x : L) (xs : List L) (k : K) (at : ℕ) → IsGap (x ∷ xs) k (suc at) → IsGap xs k at
  gap_after x xs k at g = record {
    inside = omega (arith, g.inside);
    below = λ j d lt in_l. g.below (suc j) d (omega (arith, lt)) (omega (arith, in_l));
    above = λ j d le in_l. g.above (suc j) d (omega (arith, le)) (omega (arith, in_l));
  }

  gap_first : (x : L) (xs : List L) (k : K) → IsGap (x ∷ xs) k zero → IsGap xs k zero
  gap_first x xs k g = record {
    inside = omega arith;
    below = λ j d lt in_l. absurd (omega (arith, lt));
    above = λ j d le in_l. g.above (suc j) d (omega arith) (omega (arith, in_l));
  }

  place_after : (x : L) (xs : List L) (k : K) (at : ℕ) → IsPlace (x ∷ xs) k (suc at) → IsPlace xs k at
  place_after x xs k at p = record { inside = omega (arith, p.inside); here = p.here }

  below_at : (x : K) (xs : List L) (j : ℕ) (d : L) → T (fin.Entries.below_all R x (pairs xs)) → j < length xs → R x (key (get_or xs j d)) ≡ Less
  below_at x [] j d h lt = absurd (omega (arith, lt))
  below_at x (y ∷ ys) zero d h lt = less (R x (key y)) (left _ _ h)
  below_at x (y ∷ ys) (suc j) d h lt = below_at x ys j d (right _ _ h) (omega (arith, lt))

  -- of two elements the earlier is below the later
  pub earlier_below : (xs : List L) (i j : ℕ) (d : L) → IsRising xs → i < j → j < length xs → R (key (get_or xs i d)) (key (get_or xs j d)) ≡ Less
  earlier_below [] i j d h lt in_l = absurd (omega (arith, in_l))
  earlier_below (x ∷ xs) i zero d h lt in_l = absurd (omega (arith, lt))
  earlier_below (x ∷ xs) zero (suc j) d h lt in_l = below_at (key x) xs j d (left _ _ h) (omega (arith, in_l))
  earlier_below (x ∷ xs) (suc i) (suc j) d h lt in_l = earlier_below xs i j d (right _ _ h) (omega (arith, lt)) (omega (arith, in_l))

  module _ (o : IsTotalOrder R) (exact : CmpEqualImpliesEq R) where
    rises : (k : K) (xs : List L) → IsRising xs → IsNonDecreasingBy (λ y. ordering_index (R (key y) k)) xs
    rises k [] h i j d le lt = absurd (omega (arith, lt))
    rises k (x ∷ xs) h zero zero d le lt = omega arith
    rises k (x ∷ xs) h zero (suc j) d le lt = mono R o exact (key x) (key (get_or xs j d)) k (below_at (key x) xs j d (left _ _ h) (omega (arith, lt)))
    rises k (x ∷ xs) h (suc i) zero d le lt = absurd (omega (arith, le))
    rises k (x ∷ xs) h (suc i) (suc j) d le lt = rises k xs (right _ _ h) i j d (omega (arith, le)) (omega (arith, lt))

    -- what a binary search answers
    pub place_by : (xs : List L) (k : K) (at : ℕ) → IsSearchInRange (Ok at) (length xs) → IsBinarySearchResult (λ y. R (key y) k) xs (Ok at) → IsPlace xs k at
    place_by xs k at a b = record { inside = a; here = b }

    pub gap_by : (xs : List L) (k : K) (at : ℕ) → IsRising xs → IsSearchInRange (Err at) (length xs) → IsBinarySearchResult (λ y. R (key y) k) xs (Err at) → IsGap xs k at
    gap_by xs k at h a b =
        let p = b (rises k xs h) in
        record { inside = a; below = λ j d lt in_l. p.0 j d (omega arith) lt; above = λ j d le in_l. p.1 j d le in_l }

    put_gap : (xs : List L) (l : L) (at : ℕ) → IsGap xs (key l) at → fin.Entries.put R (key l) (value l) (pairs xs) ≡ pairs (insert xs at l)
    put_gap [] l zero g = refl
    put_gap [] l (suc at) g = absurd (omega (arith, g.inside))
    put_gap (x ∷ xs) l zero g = rw (turned R o exact (key x) (key l) Greater (g.above 0 x (omega arith) (omega arith))) refl
    put_gap (x ∷ xs) l (suc at) g =
        rw (turned R o exact (key x) (key l) Less (g.below 0 x (omega arith) (omega arith))) (ap (λ es. (key x, value x) ∷ es) (put_gap xs l at (gap_after x xs (key l) at g)))

    put_place : (xs : List L) (l : L) (at : ℕ) → IsRising xs → IsPlace xs (key l) at → fin.Entries.put R (key l) (value l) (pairs xs) ≡ pairs (set xs at l)
    put_place [] l at h p = absurd (omega (arith, p.inside))
    put_place (x ∷ xs) l zero h p = rw (turned R o exact (key x) (key l) Equal (p.here x), exact (key x) (key l) (p.here x)) refl
    put_place (x ∷ xs) l (suc at) h p =
        let q = place_after x xs (key l) at p in
        let low : R (key x) (key l) ≡ Less = subst (λ y. R (key x) y ≡ Less) (exact _ (key l) (q.here l)) (below_at (key x) xs at l (left _ _ h) q.inside) in
        rw (turned R o exact (key x) (key l) Less low) (ap (λ es. (key x, value x) ∷ es) (put_place xs l at (right _ _ h) q))

    find_gap : (xs : List L) (k : K) (at : ℕ) → IsGap xs k at → fin.find R k (pairs xs) ≡ None
    find_gap [] k at g = refl
    find_gap (x ∷ xs) k zero g = rw (turned R o exact (key x) k Greater (g.above 0 x (omega arith) (omega arith))) (find_gap xs k zero (gap_first x xs k g))
    find_gap (x ∷ xs) k (suc at) g = rw (turned R o exact (key x) k Less (g.below 0 x (omega arith) (omega arith))) (find_gap xs k at (gap_after x xs k at g))

    find_place : (xs : List L) (k : K) (at : ℕ) (d : L) → IsRising xs → IsPlace xs k at → fin.find R k (pairs xs) ≡ Some (value (get_or xs at d))
    find_place [] k at d h p = absurd (omega (arith, p.inside))
    find_place (x ∷ xs) k zero d h p = rw (turned R o exact (key x) k Equal (p.here x)) refl
    find_place (x ∷ xs) k (suc at) d h p =
        let q = place_after x xs k at p in
        let low : R (key x) k ≡ Less = subst (λ y. R (key x) y ≡ Less) (exact _ k (q.here d)) (below_at (key x) xs at d (left _ _ h) q.inside) in
        rw (turned R o exact (key x) k Less low) (find_place xs k at d (right _ _ h) q)

    -- the map of a rising list
    pub get_gap : (xs : List L) (k : K) (at : ℕ) → IsRising xs → IsGap xs k at → fin.get (fin.from_sorted {R = R} (pairs xs)) k ≡ None
    get_gap xs k at h g = fin.get-from_sorted R (pairs xs) k h ∙ find_gap xs k at g

    pub get_place : (xs : List L) (k : K) (at : ℕ) (d : L) → IsRising xs → IsPlace xs k at → fin.get (fin.from_sorted {R = R} (pairs xs)) k ≡ Some (value (get_or xs at d))
    get_place xs k at d h p = fin.get-from_sorted R (pairs xs) k h ∙ find_place xs k at d h p

    pub rising_insert : (xs : List L) (l : L) (at : ℕ) → IsRising xs → IsGap xs (key l) at → IsRising (insert xs at l)
    rising_insert xs l at h g = subst (λ es. T (fin.is_sorted R es)) (put_gap xs l at g) (fin.Entries.is_sorted-put R o (key l) (value l) (pairs xs) h)

    pub rising_set : (xs : List L) (l : L) (at : ℕ) → IsRising xs → IsPlace xs (key l) at → IsRising (set xs at l)
    rising_set xs l at h p = subst (λ es. T (fin.is_sorted R es)) (put_place xs l at h p) (fin.Entries.is_sorted-put R o (key l) (value l) (pairs xs) h)

    same : (xs : List L) (l : L) (ys : List L) → IsRising xs → IsRising ys → fin.Entries.put R (key l) (value l) (pairs xs) ≡ pairs ys
        → fin.from_sorted {R = R} (pairs ys) ≡ fin.insert (fin.from_sorted (pairs xs)) (key l) (value l)
    same xs l ys h k e = fin.same_entries_map _ _
        (fin.entries-from_sorted R (pairs ys) k
        ∙ sym (fin.entries-insert o (fin.from_sorted (pairs xs)) (key l) (value l) ∙ ap (fin.Entries.put R (key l) (value l)) (fin.entries-from_sorted R (pairs xs) h) ∙ e))

    pub map_insert : (xs : List L) (l : L) (at : ℕ) → IsRising xs → IsGap xs (key l) at → fin.from_sorted {R = R} (pairs (insert xs at l)) ≡ fin.insert (fin.from_sorted (pairs xs)) (key l) (value l)
    map_insert xs l at h g = same xs l (insert xs at l) h (rising_insert xs l at h g) (put_gap xs l at g)

    pub map_set : (xs : List L) (l : L) (at : ℕ) → IsRising xs → IsPlace xs (key l) at → fin.from_sorted {R = R} (pairs (set xs at l)) ≡ fin.insert (fin.from_sorted (pairs xs)) (key l) (value l)
    map_set xs l at h p = same xs l (set xs at l) h (rising_set xs l at h p) (put_place xs l at h p)
