-- A list whose front rises, and the numbers behind it.
use Rattle.std.proofs.Common.{◌≡◌, ◌+◌, ◌<◌, false, ◌==◌, ◌++◌, ◌∷◌, [], ℕ, List, Some, None, is_some, option_map, length, get_or, take, drop, nat_eq, if◌then◌else◌, sym, ◌∙◌, ap, subst, true≢false, arith, length-append}
use Rattle.std.proofs.lemmas.Bool.{eq-eqb, eqb-true, false_from_ne_true, or_parts}
use Rattle.std.proofs.lemmas.List.{get_or_default, get_or-drop, get_or-take, length-drop, length-take-le, take_all, take_more, take-append-drop, take-append-le, drop-append-le}
use Rattle.std.proofs.lemmas.List.Folds.{list_any-append}
use Rattle.std.proofs.lemmas.List.Folds.{list_any_none}
use Rattle.std.proofs.lemmas.Map.Keys.{IsDistinct-from_apart, apart_from_distinct}
use Rattle.std.specs.List.{IsDistinct, list_any, position}
use Rattle.std.specs.List.Sorted.{IsStrictlyIncreasing}
use Rattle.net_names.specs.Numbers.{occurs}
use Rattle.as_places.specs.Places.{place_of, AreKept}
use Rattle.as_places.proofs.PlaceLemmas.{has_place, place_append, place_front, place_position, occurs_any, distinct_push}

module _ (numbers : List ℕ) (front : ℕ) (behind : List ℕ) (kept : AreKept numbers front behind) (a : ℕ) where
  whole : take front numbers ++ drop front numbers ≡ numbers
  whole = take-append-drop front numbers

  front_length : length (take front numbers) ≡ front
  front_length = length-take-le front numbers kept.inside

  -- a place in the front is the place
  pub place_in_front : (i : ℕ) → place_of (take front numbers) a ≡ Some i → place_of numbers a ≡ Some i
  place_in_front i e = ap (λ l. place_of l a) (sym whole) ∙ place_front (take front numbers) (drop front numbers) a i e

  away : place_of (take front numbers) a ≡ None → occurs a (take front numbers) ≡ false
  away e = sym (has_place (take front numbers) a) ∙ ap is_some e

  -- a place behind the front comes after it
  pub place_behind : (i : ℕ) → place_of (take front numbers) a ≡ None → position (nat_eq a) behind ≡ Some i → place_of numbers a ≡ Some (front + i)
  place_behind i none e =
      ap (λ l. place_of l a) (sym whole)
      ∙ place_append (take front numbers) (drop front numbers) a (away none)
      ∙ ap (option_map (λ k. length (take front numbers) + k)) (place_position (drop front numbers) a ∙ ap (position (nat_eq a)) (sym kept.others) ∙ e)
      ∙ ap (λ n. Some (n + i)) front_length

  -- neither in the front nor behind it: nowhere
  pub place_nowhere : place_of (take front numbers) a ≡ None → position (nat_eq a) behind ≡ None → place_of numbers a ≡ None
  place_nowhere none e =
      ap (λ l. place_of l a) (sym whole)
      ∙ place_append (take front numbers) (drop front numbers) a (away none)
      ∙ ap (option_map (λ k. length (take front numbers) + k)) (place_position (drop front numbers) a ∙ ap (position (nat_eq a)) (sym kept.others) ∙ e)

  -- where the front is all, there is none behind it
  pub place_missing : place_of (take front numbers) a ≡ None → front ≡ length numbers → place_of numbers a ≡ None
  place_missing none all = ap (λ l. place_of l a) (sym (take_all front numbers (omega (arith, all)))) ∙ none

  -- one more number goes behind the others
  pub kept_push : (numbers' behind' : List ℕ) → occurs a numbers ≡ false → numbers' ≡ numbers ++ a ∷ [] → behind' ≡ (if list_any (nat_eq a) behind then behind else behind ++ a ∷ []) → AreKept numbers' front behind'
  kept_push numbers' behind' none more put =
      let there : list_any (nat_eq a) behind ≡ false = sym (occurs_any behind a) ∙ ap (occurs a) kept.others ∙ (or_parts (occurs a (take front numbers)) (occurs a (drop front numbers)) (sym (list_any-append (λ y. y == a) (take front numbers) (drop front numbers)) ∙ ap (occurs a) whole ∙ none)).1 in
      record {
        apart = subst (λ l. IsDistinct nat_eq l) (sym more) (distinct_push numbers a kept.apart none);
        inside = omega (arith, kept.inside, ap length more, length-append numbers (a ∷ []));
        rising = subst IsStrictlyIncreasing (sym (ap (take front) more ∙ take-append-le front numbers (a ∷ []) kept.inside)) kept.rising;
        others = put ∙ ap (λ b. if b then behind else behind ++ a ∷ []) there ∙ ap (λ l. l ++ a ∷ []) kept.others ∙ sym (drop-append-le front numbers (a ∷ []) kept.inside) ∙ ap (drop front) (sym more);
      }

-- in a list of different numbers the one at i does not stand before
new_at : (xs : List ℕ) (i x : ℕ) → IsDistinct nat_eq xs → i < length xs → x ≡ get_or xs i x → list_any (nat_eq x) (take i xs) ≡ false
new_at xs i x apart less here = list_any_none (nat_eq x) (take i xs) (λ k d low.
    let small : k < i = omega (arith, low, length-take-le i xs (omega (arith, less))) in
    false_from_ne_true _ (λ o. (
    let same = sym (get_or-take i xs k d small) ∙ sym (eqb-true x (get_or (take i xs) k d) o) ∙ here ∙ get_or_default xs i x d less in
    true≢false (sym (eq-eqb (get_or xs k d) (get_or xs i d) same) ∙ apart_from_distinct nat_eq xs k i d apart small less))))

-- so that it goes behind them
pub insert_next : (xs keys : List ℕ) (i x : ℕ) → IsDistinct nat_eq xs → i < length xs → x ≡ get_or xs i x → keys ≡ take i xs → (if list_any (nat_eq x) keys then keys else keys ++ x ∷ []) ≡ take (i + 1) xs
insert_next xs keys i x apart less here so_far =
    ap (λ b. if b then keys else keys ++ x ∷ []) (ap (list_any (nat_eq x)) so_far ∙ new_at xs i x apart less here)
    ∙ ap (λ l. l ++ x ∷ []) so_far ∙ ap (λ y. take i xs ++ y ∷ []) here ∙ sym (take_more xs i x less)

-- the numbers behind the front differ too
pub distinct_drop : (n : ℕ) (xs : List ℕ) → IsDistinct nat_eq xs → IsDistinct nat_eq (drop n xs)
distinct_drop n xs apart = IsDistinct-from_apart nat_eq (drop n xs) (λ i j d before less. rw (get_or-drop n xs i d, get_or-drop n xs j d) (apart_from_distinct nat_eq xs (n + i) (n + j) d apart (omega (arith, before)) (omega (arith, less, length-drop n xs, before))))
