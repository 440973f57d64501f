-- Entries of ASes at places, with those beside.
use Rattle.std.proofs.Common.{◌≡◌, ◌≢◌, ℕ, zero, suc, ◌+◌, ◌-◌, ◌<◌, ◌≤◌, Bool, true, false, cond, ◌||◌, ◌==◌, List, [], ◌∷◌, ◌++◌, length, get_or, slice_get, set, Option, Some, None, is_some, option_map, unwrap_or, nat_eq, refl, ap, sym, subst, ◌∙◌, true≢false, arith}
use Rattle.std.specs.Prelude.{IsSome, IfSome}
use Rattle.std.specs.List.{sum_by, AllByRecursion, IsDistinct}
use Rattle.std.specs.Map.{keys_of, values_of, lookup}
use Rattle.std.proofs.lemmas.List.{append_assoc, get_or-map, get_or-set_same, get_or-set_other, length-map, append-nil}
use Rattle.std.proofs.lemmas.List.Folds.{list_any-append}
use Rattle.std.proofs.lemmas.List.Sums.{sum_by-cons, sum_by-set}
use Rattle.std.proofs.lemmas.Cmp.{nat_eq_equiv}
use Rattle.std.proofs.lemmas.Map.Entries.{lookup_from_place}
use Rattle.std.proofs.lemmas.Option.{get_or_from_slice_get, slice_get_within}
use Rattle.net_names.specs.Numbers.{occurs}
use Rattle.as_places.specs.Places.{place_of}
use Rattle.as_places.proofs.PlaceLemmas.{at_place, distinct_push, eqb_comm, has_place, place_at}
use Rattle.route_choice.specs.declared.held.Held.{Held}
use Rattle.route_choice.specs.declared.slot.Slot.{Slot}
use Rattle.route_choice.specs.declared.row.Row.{Row}
use Rattle.route_choice.specs.Rows.{entry_in, asns_of, entries_of, empty_rows, AreByPlace}
use Rattle.route_choice.specs.Slots.{use_of, uses_in, IsBlank}
use Rattle.route_choice.proofs.Uses.{occurs-keys}

-- an AS at a place has the entry of the row at that place
pub slot_placed : (rows : List Row) (es : List (ℕ × Option Held)) (a i : ℕ) (d : Row) → place_of (asns_of rows) a ≡ Some i → lookup (nat_eq a) (entries_of rows ++ es) ≡ Some (entry_in (get_or rows i d).slot)
slot_placed [] es a i d at = absurd (true≢false (sym (ap is_some at)))
slot_placed (r ∷ rs) es a i d at =
    ap (λ b. cond b (Some (entry_in r.slot)) (lookup (nat_eq a) (entries_of rs ++ es))) (eqb_comm a r.asn) ∙ by (r.asn == a) (place_of (asns_of rs) a) (λ j. slot_placed rs es a j d) at
  where
    by : (b : Bool) (o : Option ℕ) → ((j : ℕ) → o ≡ Some j → lookup (nat_eq a) (entries_of rs ++ es) ≡ Some (entry_in (get_or rs j d).slot)) → cond b (Some 0) (option_map suc o) ≡ Some i → cond b (Some (entry_in r.slot)) (lookup (nat_eq a) (entries_of rs ++ es)) ≡ Some (entry_in (get_or (r ∷ rs) i d).slot)
    by true o ih e = ap (λ k. Some (entry_in (get_or (r ∷ rs) k d).slot)) (ap (λ n. unwrap_or n 0) e)
    by false None ih e = absurd (true≢false (sym (ap is_some e)))
    by false (Some j) ih e = ih j refl ∙ ap (λ k. Some (entry_in (get_or (r ∷ rs) k d).slot)) (ap (λ n. unwrap_or n 0) e)

-- one without a place has what it has beside
pub slot_beside : (rows : List Row) (es : List (ℕ × Option Held)) (a : ℕ) → place_of (asns_of rows) a ≡ None → lookup (nat_eq a) (entries_of rows ++ es) ≡ lookup (nat_eq a) es
slot_beside [] es a at = refl
slot_beside (r ∷ rs) es a at =
    ap (λ b. cond b (Some (entry_in r.slot)) (lookup (nat_eq a) (entries_of rs ++ es))) (eqb_comm a r.asn) ∙ by (r.asn == a) (place_of (asns_of rs) a) (slot_beside rs es a) at
  where
    by : (b : Bool) (o : Option ℕ) → (o ≡ None → lookup (nat_eq a) (entries_of rs ++ es) ≡ lookup (nat_eq a) es) → cond b (Some 0) (option_map suc o) ≡ None → cond b (Some (entry_in r.slot)) (lookup (nat_eq a) (entries_of rs ++ es)) ≡ lookup (nat_eq a) es
    by true o ih e = absurd (true≢false (ap is_some e))
    by false None ih e = ih refl
    by false (Some j) ih e = absurd (true≢false (ap is_some e))

-- the pair at an index that is a place, and the one at an index behind the places
pub pair_placed : (rows : List Row) (es : List (ℕ × Option Held)) (i : ℕ) (d : Row) → i < length rows → slice_get (entries_of rows ++ es) i ≡ Some ((get_or rows i d).asn, entry_in (get_or rows i d).slot)
pair_placed [] es i d less = absurd (omega (arith, less))
pair_placed (r ∷ rs) es zero d less = refl
pair_placed (r ∷ rs) es (suc i) d less = pair_placed rs es i d (omega (arith, less))

pub pair_beside : (rows : List Row) (es : List (ℕ × Option Held)) (i : ℕ) → length rows ≤ i → slice_get (entries_of rows ++ es) i ≡ slice_get es (i - length rows)
pair_beside [] es i past = ap (slice_get es) (omega arith)
pair_beside (r ∷ rs) es zero past = absurd (omega (arith, past))
pair_beside (r ∷ rs) es (suc i) past = pair_beside rs es i (omega (arith, past)) ∙ ap (slice_get es) (omega arith)

pub whole_length : (rows : List Row) (es : List (ℕ × Option Held)) → length (entries_of rows ++ es) ≡ length rows + length es
whole_length [] es = omega arith
whole_length (r ∷ rs) es = ap suc (whole_length rs es) ∙ omega arith

pub whole_keys : (rows : List Row) (es : List (ℕ × Option Held)) → keys_of (entries_of rows ++ es) ≡ asns_of rows ++ keys_of es
whole_keys [] es = refl
whole_keys (r ∷ rs) es = ap (λ l. r.asn ∷ l) (whole_keys rs es)

pub whole_uses : (rows : List Row) (es : List (ℕ × Option Held)) (k : ℕ) → uses_in (entries_of rows ++ es) k ≡ sum_by (λ (r : Row). use_of k (entry_in r.slot)) rows + uses_in es k
whole_uses [] es k = omega arith
whole_uses (r ∷ rs) es k = omega (
  arith,
  whole_uses rs es k,
  sum_by-cons (use_of k) (entry_in r.slot) (values_of (entries_of rs ++ es)),
  sum_by-cons (λ (q : Row). use_of k (entry_in q.slot)) r rs,
)

-- what differs in two lists differs in the first
all_front : (p : ℕ → Type 0) (xs ys : List ℕ) → AllByRecursion p (xs ++ ys) → AllByRecursion p xs
all_front p [] ys all = tt
all_front p (x ∷ xs) ys all = (all.0, all_front p xs ys all.1)

distinct_front : (xs ys : List ℕ) → IsDistinct nat_eq (xs ++ ys) → IsDistinct nat_eq xs
unfolding IsDistinct
distinct_front [] ys apart = tt
distinct_front (x ∷ xs) ys apart = (all_front (λ y. nat_eq x y ≡ false) xs ys apart.0, distinct_front xs ys apart.1)

module _ {ases : List ℕ} {rows : List Row} {es : List (ℕ × Option Held)} (kept : AreByPlace ases rows es) where
  pub whole_apart : IsDistinct nat_eq (keys_of (entries_of rows ++ es))
  whole_apart = subst (IsDistinct nat_eq) (sym (whole_keys rows es)) kept.apart

  pub rows_apart : {given : List Row} → given ≡ rows → IsDistinct nat_eq (asns_of given)
  rows_apart same = subst (λ l. IsDistinct nat_eq (asns_of l)) (sym same) (distinct_front (asns_of rows) (keys_of es) kept.apart)

  -- an entry is put at an AS beside
  module _ (a : ℕ) (after : List (ℕ × Option Held)) (at : place_of (asns_of rows) a ≡ None) where
    away : occurs a (asns_of rows) ≡ false
    away = sym (has_place (asns_of rows) a) ∙ ap is_some at

    put_kept_old : keys_of after ≡ keys_of es → AreByPlace ases rows after
    put_kept_old same = record { places = kept.places; apart = subst (λ l. IsDistinct nat_eq (asns_of rows ++ l)) (sym same) kept.apart }

    put_kept_new : lookup (nat_eq a) es ≡ None → keys_of after ≡ keys_of es ++ a ∷ [] → AreByPlace ases rows after
    put_kept_new none more =
        let new : occurs a (asns_of rows ++ keys_of es) ≡ false = list_any-append (λ y. y == a) (asns_of rows) (keys_of es) ∙ ap (λ b. b || occurs a (keys_of es)) away ∙ occurs-keys es a ∙ ap is_some none in
        let longer : (asns_of rows ++ keys_of es) ++ a ∷ [] ≡ asns_of rows ++ keys_of after = append_assoc (asns_of rows) (keys_of es) (a ∷ []) ∙ ap (λ l. asns_of rows ++ l) (sym more) in
        record { places = kept.places; apart = subst (IsDistinct nat_eq) longer (distinct_push (asns_of rows ++ keys_of es) a kept.apart new) }

    pub put_kept : (IsSome (lookup (nat_eq a) es) → keys_of after ≡ keys_of es) → (lookup (nat_eq a) es ≡ None → keys_of after ≡ keys_of es ++ a ∷ []) → AreByPlace ases rows after
    put_kept same more = by (lookup (nat_eq a) es) refl
      where
        by : (o : Option (Option Held)) → lookup (nat_eq a) es ≡ o → AreByPlace ases rows after
        by None e = put_kept_new e (more e)
        by (Some v) e = put_kept_old (same (subst IsSome (sym e) refl))

-- the place that was found among rows that were handed over
pub placed : {given rows : List Row} {found o : Option ℕ} (a : ℕ) → given ≡ rows → found ≡ place_of (asns_of given) a → found ≡ o → place_of (asns_of rows) a ≡ o
placed a same told is = ap (λ l. place_of (asns_of l) a) (sym same) ∙ sym told ∙ is

-- the AS of a row has its place where no AS has two
pub row_place : (rows : List Row) (i : ℕ) (d : Row) → IsDistinct nat_eq (asns_of rows) → i < length rows → place_of (asns_of rows) (get_or rows i d).asn ≡ Some i
row_place rows i d apart less =
    place_at (asns_of rows) apart i (get_or rows i d).asn (omega (arith, less, length-map rows (λ (r : Row). r.asn))) (get_or-map (λ (r : Row). r.asn) rows i d 0 less)

-- a place is that of a row
pub is_inside : (rows : List Row) (a i : ℕ) → place_of (asns_of rows) a ≡ Some i → i < length rows
is_inside rows a i at = omega (arith, slice_get_within (asns_of rows) i a (at_place (asns_of rows) a i at), length-map rows (λ (r : Row). r.asn))

pub inside_where : (rows : List Row) (a : ℕ) (o : Option ℕ) → place_of (asns_of rows) a ≡ o → IfSome o (λ i. i < length rows)
inside_where rows a None at = tt
inside_where rows a (Some i) at = is_inside rows a i at

-- a row with another slot
abbrev pub row_with : Row → Slot → Row
row_with r s = record { asn = r.asn; slot = s }

-- another slot in a row leaves the ASes as they are
asns_of-set : (rows : List Row) (i : ℕ) (d : Row) (s : Slot) → d ≡ get_or rows i d → asns_of (set rows i (row_with d s)) ≡ asns_of rows
asns_of-set [] i d s read = refl
asns_of-set (r ∷ rs) zero d s read = ap (λ (q : Row). q.asn ∷ asns_of rs) read
asns_of-set (r ∷ rs) (suc i) d s read = ap (λ l. r.asn ∷ l) (asns_of-set rs i d s read)

-- after a slot is written into the row at the place of an AS, the AS has its entry, and all else is as before
module _ (rows : List Row) (a i : ℕ) (d : Row) (es : List (ℕ × Option Held)) (s : Slot) (at : place_of (asns_of rows) a ≡ Some i) (read : d ≡ get_or rows i d) where
  asns_same : asns_of (set rows i (row_with d s)) ≡ asns_of rows
  asns_same = asns_of-set rows i d s read

  place_same : (b : ℕ) (o : Option ℕ) → place_of (asns_of rows) b ≡ o → place_of (asns_of (set rows i (row_with d s))) b ≡ o
  place_same b o e = ap (λ l. place_of l b) asns_same ∙ e

  pub written_kept : {ases : List ℕ} → AreByPlace ases rows es → AreByPlace ases (set rows i (row_with d s)) es
  written_kept kept = record { places = asns_same ∙ kept.places; apart = subst (λ l. IsDistinct nat_eq (l ++ keys_of es)) (sym asns_same) kept.apart }

  pub written_this : lookup (nat_eq a) (entries_of (set rows i (row_with d s)) ++ es) ≡ Some (entry_in s)
  written_this =
      slot_placed (set rows i (row_with d s)) es a i d (place_same a (Some i) at)
      ∙ ap (λ (q : Row). Some (entry_in q.slot)) (get_or-set_same rows i (row_with d s) d (is_inside rows a i at))

  pub written_others : (b : ℕ) → b ≢ a → lookup (nat_eq b) (entries_of (set rows i (row_with d s)) ++ es) ≡ lookup (nat_eq b) (entries_of rows ++ es)
  written_others b ne = by (place_of (asns_of rows) b) refl
    where
      by : (o : Option ℕ) → place_of (asns_of rows) b ≡ o → lookup (nat_eq b) (entries_of (set rows i (row_with d s)) ++ es) ≡ lookup (nat_eq b) (entries_of rows ++ es)
      by None e = slot_beside (set rows i (row_with d s)) es b (place_same b None e) ∙ sym (slot_beside rows es b e)
      by (Some j) e =
          let apart : j ≢ i = λ equal. ne (sym (get_or_from_slice_get (asns_of rows) j b 0 (at_place (asns_of rows) b j e)) ∙ ap (λ k. get_or (asns_of rows) k 0) equal ∙ get_or_from_slice_get (asns_of rows) i a 0 (at_place (asns_of rows) a i at)) in
          slot_placed (set rows i (row_with d s)) es b j d (place_same b (Some j) e)
          ∙ ap (λ (q : Row). Some (entry_in q.slot)) (get_or-set_other rows i j (row_with d s) d apart)
          ∙ sym (slot_placed rows es b j d e)

  pub written_keys : keys_of (entries_of (set rows i (row_with d s)) ++ es) ≡ keys_of (entries_of rows ++ es)
  written_keys = whole_keys (set rows i (row_with d s)) es ∙ ap (λ l. l ++ keys_of es) asns_same ∙ sym (whole_keys rows es)

  pub written_uses : (e : Row) (k : ℕ) → uses_in (entries_of (set rows i (row_with d s)) ++ es) k + use_of k (entry_in (get_or rows i e).slot) ≡ uses_in (entries_of rows ++ es) k + use_of k (entry_in s)
  written_uses e k = omega (
    arith,
    whole_uses (set rows i (row_with d s)) es k,
    whole_uses rows es k,
    sum_by-set (λ (q : Row). use_of k (entry_in q.slot)) rows i (row_with d s) e (is_inside rows a i at),
  )

-- what was read at an index stands at its AS
pub slot_read : (es : List (ℕ × Option Held)) (i a : ℕ) (v : Option Held) → IsDistinct nat_eq (keys_of es) → slice_get es i ≡ Some (a, v) → lookup (nat_eq a) es ≡ Some v
slot_read es i a v apart read = lookup_from_place nat_eq_equiv es i a v apart read

pub read_slot : (es : List (ℕ × Option Held)) (i : ℕ) (o : Option (ℕ × Option Held)) → IsDistinct nat_eq (keys_of es) → slice_get es i ≡ o → IfSome o (λ e. lookup (nat_eq e.0) es ≡ Some e.1)
read_slot es i None apart read = tt
read_slot es i (Some e) apart read = slot_read es i e.0 e.1 apart read

-- rows without entries: their ASes, what stands at an AS, and how often a path is used
asns_of-empty_rows : (ases : List ℕ) → asns_of (empty_rows ases) ≡ ases
asns_of-empty_rows [] = refl
asns_of-empty_rows (x ∷ xs) = ap (λ l. x ∷ l) (asns_of-empty_rows xs)

empty_slot : (ases : List ℕ) (a : ℕ) → lookup (nat_eq a) (entries_of (empty_rows ases) ++ []) ≡ cond (occurs a ases) (Some None) None
empty_slot [] a = refl
empty_slot (x ∷ xs) a = ap (λ b. cond b (Some None) (lookup (nat_eq a) (entries_of (empty_rows xs) ++ []))) (eqb_comm a x) ∙ by (x == a) (empty_slot xs a)
  where
    by : (b : Bool) → lookup (nat_eq a) (entries_of (empty_rows xs) ++ []) ≡ cond (occurs a xs) (Some None) None → cond b (Some None) (lookup (nat_eq a) (entries_of (empty_rows xs) ++ [])) ≡ cond (b || occurs a xs) (Some None) None
    by true ih = refl
    by false ih = ih

empty_uses : (ases : List ℕ) (k : ℕ) → uses_in (entries_of (empty_rows ases) ++ []) k ≡ 0
empty_uses [] k = refl
empty_uses (x ∷ xs) k = omega (arith, sum_by-cons (use_of k) None (values_of (entries_of (empty_rows xs) ++ [])), empty_uses xs k)

module _ (ases : List ℕ) {rows : List Row} {es : List (ℕ × Option Held)} (empty : rows ≡ empty_rows ases) (none : es ≡ []) where
  whole_empty : entries_of rows ++ es ≡ entries_of (empty_rows ases) ++ []
  whole_empty = ap (λ l. entries_of l ++ es) empty ∙ ap (λ l. entries_of (empty_rows ases) ++ l) none

  blank_places : asns_of rows ≡ ases
  blank_places = ap (λ l. asns_of l) empty ∙ asns_of-empty_rows ases

  blank_keys : asns_of rows ++ keys_of es ≡ ases
  blank_keys = ap (λ (l : List (ℕ × Option Held)). asns_of rows ++ keys_of l) none ∙ append-nil (asns_of rows) ∙ blank_places

  pub blank_kept : IsDistinct nat_eq ases → AreByPlace ases rows es
  blank_kept apart = record { places = blank_places; apart = subst (IsDistinct nat_eq) (sym blank_keys) apart }

  pub blank_rows : {more spare : ℕ} → more ≤ spare → IsBlank ases more (record { entries = entries_of rows ++ es; spare = spare })
  blank_rows room = record {
    entries = λ a. ap (lookup (nat_eq a)) whole_empty ∙ empty_slot ases a;
    places = whole_keys rows es ∙ blank_keys;
    uses = λ k. ap (λ l. uses_in l k) whole_empty ∙ empty_uses ases k;
    room = room;
  }

-- nothing is there at first
pub none_kept : {rows : List Row} {es : List (ℕ × Option Held)} → rows ≡ [] → es ≡ [] → AreByPlace [] rows es
unfolding IsDistinct
none_kept empty none = blank_kept [] empty none tt

-- where what stands beside is as before at an AS, so is what stands there in all
pub put_others : (rows : List Row) (es after : List (ℕ × Option Held)) (a : ℕ) → lookup (nat_eq a) after ≡ lookup (nat_eq a) es → lookup (nat_eq a) (entries_of rows ++ after) ≡ lookup (nat_eq a) (entries_of rows ++ es)
put_others [] es after a same = same
put_others (r ∷ rs) es after a same = ap (cond (nat_eq a r.asn) (Some (entry_in r.slot))) (put_others rs es after a same)
