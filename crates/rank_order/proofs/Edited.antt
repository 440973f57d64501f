-- Two lists side by side with an entry more, changed or less, told by number.
use Rattle.std.proofs.Common.{◌≡◌, inl, inr, ℕ, zero, suc, ◌+◌, ◌<◌, ◌≤◌, Bool, true, false, ◌==◌, nat_lt, cond, Option, Some, None, Ok, Err, List, [], ◌∷◌, length, get_or, set, refl, sym, ◌∙◌, ap, subst, arith}
use Rattle.std.proofs.lemmas.Bool.{cases_Bool, cases_lt, cases_eq, lt-ltb, ltb-true, eqb-true, eq-eqb, or_parts, false_from_ne_true}
use Rattle.std.proofs.lemmas.List.Edits.{length-remove, get_or-remove_below, get_or-remove_above}
use Rattle.std.proofs.lemmas.List.Kept.{AllPairs-from_increasing}
use Rattle.std.specs.List.{zip, insert, remove}
use Rattle.std.proofs.lemmas.List.Sorted.{searched}
use Rattle.std.specs.List.Sorted.{IsStrictlyIncreasing, IsBinarySearchResult}
use Rattle.std.specs.Ordering.{nat_cmp}
use Rattle.std.specs.Cmp.{nat_cmp_total, unsigned_tied}
use Rattle.std.specs.FinMap as map
use Rattle.net_names.specs.Numbers.{occurs}
use Rattle.cycle_check.specs.Places.{place_in}
use Rattle.as_graph.specs.Order.{IsStart}
use Rattle.cycle_check.proofs.Listing.{occurs_index}
use Rattle.cycle_check.proofs.Places.{place_less, place_none}
use Rattle.rank_order.specs.Ranks.{rank_map}
use Rattle.rank_order.proofs.Kept.{same_sides, find_zip}
use Rattle.net_names.proofs.Shared.{not_falling}

-- what the lists tell of a number
abbrev find : List ℕ → List ℕ → ℕ → Option ℕ
find ases ranks a = map.find nat_cmp a (zip ases ranks)

find_cons : (y s : ℕ) (ys ss : List ℕ) (a : ℕ) → find (y ∷ ys) (s ∷ ss) a ≡ cond (y == a) (Some s) (find ys ss a)
find_cons y s ys ss a = ap (λ b. cond b (Some s) (find ys ss a)) (unsigned_tied a y ∙ same_sides y a)

-- tests of two numbers that differ may change places
swapped : (x y a : ℕ) → (y == x) ≡ false → (e o f : Option ℕ) → cond (y == a) e (cond (x == a) f o) ≡ cond (x == a) f (cond (y == a) e o)
swapped x y a apart e o f = by (y == a) (x == a) refl refl
  where
    by : (b c : Bool) → (y == a) ≡ b → (x == a) ≡ c → cond b e (cond c f o) ≡ cond c f (cond b e o)
    by true true p q = let same : y ≡ x = eqb-true y a p ∙ sym (eqb-true x a q) in let t = eq-eqb y x same in cc
    by true false p q = refl
    by false true p q = refl
    by false false p q = refl

find_insert : (at : ℕ) (ases ranks : List ℕ) (x r a : ℕ) → at ≤ length ases → length ranks ≡ length ases → occurs x ases ≡ false → find (insert ases at x) (insert ranks at r) a ≡ cond (x == a) (Some r) (find ases ranks a)
find_insert zero ases ranks x r a le e away = find_cons x r ases ranks a
find_insert (suc at) [] ranks x r a le e away = absurd (omega (arith, le))
find_insert (suc at) (y ∷ ys) [] x r a le e away = absurd (omega (arith, e))
find_insert (suc at) (y ∷ ys) (s ∷ ss) x r a le e away =
    let parts = or_parts (y == x) (occurs x ys) away in
    find_cons y s (insert ys at x) (insert ss at r) a
    ∙ ap (cond (y == a) (Some s)) (find_insert at ys ss x r a (omega (arith, le)) (omega (arith, e)) parts.1)
    ∙ swapped x y a parts.0 (Some s) (find ys ss a) (Some r)
    ∙ ap (cond (x == a) (Some r)) (sym (find_cons y s ys ss a))

find_none : (ases ranks : List ℕ) → length ranks ≡ length ases → (a : ℕ) → occurs a ases ≡ false → find ases ranks a ≡ None
find_none ases ranks e a away = find_zip ases ranks e a ∙ ap (λ b. cond b (Some (get_or ranks (place_in ases a) 0)) None) away

find_remove : (at : ℕ) (ases ranks : List ℕ) (x a : ℕ) → at < length ases → length ranks ≡ length ases → get_or ases at 0 ≡ x → occurs x (remove ases at) ≡ false → find (remove ases at) (remove ranks at) a ≡ cond (x == a) None (find ases ranks a)
find_remove at [] ranks x a lt e is away = absurd (omega (arith, lt))
find_remove at (y ∷ ys) [] x a lt e is away = absurd (omega (arith, e))
find_remove zero (y ∷ ys) (s ∷ ss) x a lt e is away = by (x == a) refl
  where
    by : (b : Bool) → (x == a) ≡ b → find ys ss a ≡ cond b None (find (y ∷ ys) (s ∷ ss) a)
    by true p = find_none ys ss (omega (arith, e)) a (subst (λ t. occurs t ys ≡ false) (eqb-true x a p) away)
    by false p = sym (find_cons y s ys ss a ∙ ap (λ b. cond b (Some s) (find ys ss a)) (ap (λ t. t == a) is ∙ p))
find_remove (suc at) (y ∷ ys) (s ∷ ss) x a lt e is away =
    let parts = or_parts (y == x) (occurs x (remove ys at)) away in
    find_cons y s (remove ys at) (remove ss at) a
    ∙ ap (cond (y == a) (Some s)) (find_remove at ys ss x a (omega (arith, lt)) (omega (arith, e)) is parts.1)
    ∙ swapped x y a parts.0 (Some s) (find ys ss a) None
    ∙ ap (cond (x == a) None) (sym (find_cons y s ys ss a))

find_set : (at : ℕ) (ases ranks : List ℕ) (x r a : ℕ) → at < length ases → length ranks ≡ length ases → get_or ases at 0 ≡ x → occurs x (remove ases at) ≡ false → find ases (set ranks at r) a ≡ cond (x == a) (Some r) (find ases ranks a)
find_set at [] ranks x r a lt e is away = absurd (omega (arith, lt))
find_set at (y ∷ ys) [] x r a lt e is away = absurd (omega (arith, e))
find_set zero (y ∷ ys) (s ∷ ss) x r a lt e is away =
    find_cons y r ys ss a ∙ ap (λ t. cond (t == a) (Some r) (find ys ss a)) is ∙ by (x == a) refl
  where
    by : (b : Bool) → (x == a) ≡ b → cond b (Some r) (find ys ss a) ≡ cond b (Some r) (find (y ∷ ys) (s ∷ ss) a)
    by true p = refl
    by false p = sym (find_cons y s ys ss a ∙ ap (λ b. cond b (Some s) (find ys ss a)) (ap (λ t. t == a) is ∙ p))
find_set (suc at) (y ∷ ys) (s ∷ ss) x r a lt e is away =
    let parts = or_parts (y == x) (occurs x (remove ys at)) away in
    find_cons y s ys (set ss at r) a
    ∙ ap (cond (y == a) (Some s)) (find_set at ys ss x r a (omega (arith, lt)) (omega (arith, e)) is parts.1)
    ∙ swapped x y a parts.0 (Some s) (find ys ss a) (Some r)
    ∙ ap (cond (x == a) (Some r)) (sym (find_cons y s ys ss a))

-- in a rising list nothing stands twice
once : (ases : List ℕ) → IsStrictlyIncreasing ases → (at : ℕ) → at < length ases → occurs (get_or ases at 0) (remove ases at) ≡ false
once ases rising at lt = false_from_ne_true _ (λ o.
    let (i, less, is) = occurs_index (get_or ases at 0) (remove ases at) o in
    let size = length-remove ases at lt in
    elim (cases_lt i at) [
      | inl below ↦ (
          let same = get_or-remove_below ases at 0 i below lt in
          let rises : get_or ases i 0 < get_or ases at 0 = AllPairs-from_increasing ases rising i at 0 below lt in
          omega (arith, same, is, rises))
      | inr above ↦ (
          let same = get_or-remove_above ases at 0 i (omega (arith, above)) lt in
          let rises : get_or ases at 0 < get_or ases (i + 1) 0 = AllPairs-from_increasing ases rising at (i + 1) 0 (omega (arith, above)) (omega (arith, less, size)) in
          omega (arith, same, is, rises))
    ])

module _ (ases ranks : List ℕ) (rising : IsStrictlyIncreasing ases) (each : length ranks ≡ length ases) where
  read : (a : ℕ) → map.get (rank_map ases ranks) a ≡ find ases ranks a
  read a = map.get-from_entries nat_cmp_total (zip ases ranks) a

  pub get_set : (at x r a : ℕ) → at < length ases → get_or ases at 0 ≡ x → map.get (rank_map ases (set ranks at r)) a ≡ cond (x == a) (Some r) (map.get (rank_map ases ranks) a)
  get_set at x r a lt is =
      map.get-from_entries nat_cmp_total (zip ases (set ranks at r)) a
      ∙ find_set at ases ranks x r a lt each is (subst (λ t. occurs t (remove ases at) ≡ false) is (once ases rising at lt)) ∙ ap (cond (x == a) (Some r)) (sym (read a))

  pub get_insert : (at x r a : ℕ) → at ≤ length ases → occurs x ases ≡ false → map.get (rank_map (insert ases at x) (insert ranks at r)) a ≡ cond (x == a) (Some r) (map.get (rank_map ases ranks) a)
  get_insert at x r a le away =
      map.get-from_entries nat_cmp_total (zip (insert ases at x) (insert ranks at r)) a ∙ find_insert at ases ranks x r a le each away ∙ ap (cond (x == a) (Some r)) (sym (read a))

  pub get_remove : (at x a : ℕ) → at < length ases → get_or ases at 0 ≡ x → map.get (rank_map (remove ases at) (remove ranks at)) a ≡ cond (x == a) None (map.get (rank_map ases ranks) a)
  get_remove at x a lt is =
      map.get-from_entries nat_cmp_total (zip (remove ases at) (remove ranks at)) a
      ∙ find_remove at ases ranks x a lt each is (subst (λ t. occurs t (remove ases at) ≡ false) is (once ases rising at lt)) ∙ ap (cond (x == a) None) (sym (read a))

  pub get_away : (x a : ℕ) → occurs x ases ≡ false → map.get (rank_map ases ranks) a ≡ cond (x == a) None (map.get (rank_map ases ranks) a)
  get_away x a away = by (x == a) refl
    where
      by : (b : Bool) → (x == a) ≡ b → map.get (rank_map ases ranks) a ≡ cond b None (map.get (rank_map ases ranks) a)
      by true p = read a ∙ find_none ases ranks each a (subst (λ t. occurs t ases ≡ false) (eqb-true x a p) away)
      by false p = refl

-- ---- what a search finds

module _ (xs : List ℕ) (rising : IsStrictlyIncreasing xs) (k at : ℕ) where
  pub found_at : IsBinarySearchResult (λ n. nat_cmp n k) xs (Ok at) → (at < length xs) × (get_or xs at 0 ≡ k)
  found_at position = searched xs k (Ok at) position (not_falling xs rising)

  pub start_at : IsBinarySearchResult (λ n. nat_cmp n k) xs (Err at) → IsStart xs (Some k) at
  start_at position =
      let missed = searched xs k (Err at) position (not_falling xs rising) in
      record {
        below = λ j low inside up. (let h = missed.1 j low in omega (arith, h, up));
        from = λ j high inside. missed.2 j high inside;
      }

  pub none_at : IsBinarySearchResult (λ n. nat_cmp n k) xs (Err at) → occurs k xs ≡ false
  none_at position = false_from_ne_true _ (λ o.
      let missed = searched xs k (Err at) position (not_falling xs rising) in
      let (j, less, is) = occurs_index k xs o in
      elim (cases_lt j at) [
        | inl low ↦ (let h = missed.1 j low in omega (arith, h, is))
        | inr high ↦ (let h = missed.2 j high less in omega (arith, h, is))
      ])

-- the place tells whether the number is there
pub place_tells : (xs : List ℕ) (a : ℕ) → nat_lt (place_in xs a) (length xs) ≡ occurs a xs
place_tells xs a = elim (cases_Bool (occurs a xs)) [
  | inl o ↦ lt-ltb (place_in xs a) (length xs) (place_less xs a o) ∙ sym o
  | inr o ↦ false_from_ne_true _ (λ t. (let less = ltb-true (place_in xs a) (length xs) t in let e = place_none xs a o in omega (arith, less, e))) ∙ sym o
]

pub away_past : (xs : List ℕ) (a : ℕ) → length xs ≤ place_in xs a → occurs a xs ≡ false
away_past xs a past = sym (place_tells xs a) ∙ false_from_ne_true _ (λ t. (let less = ltb-true (place_in xs a) (length xs) t in omega (arith, less, past)))

pub there_before : (xs : List ℕ) (a : ℕ) → place_in xs a < length xs → occurs a xs ≡ true
there_before xs a less = sym (place_tells xs a) ∙ lt-ltb (place_in xs a) (length xs) less
