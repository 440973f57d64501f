-- Entries of many ASes, found by marks.
use Rattle.std.proofs.Common.{◌≡◌, ◌≢◌, ℕ, suc, ◌+◌, ◌-◌, ◌<◌, ◌≤◌, Bool, true, false, cond, ◌==◌, List, [], ◌∷◌, ◌++◌, length, get_or, set, slice_get, Option, Some, None, is_some, option_map, nat_eq, refl, ap, sym, subst, ◌∙◌, inl, inr, arith}
use Rattle.std.specs.List.{sum_by, IsDistinct}
use Rattle.std.specs.Map.{keys_of, values_of, lookup}
use Rattle.std.proofs.lemmas.Bool.{cases_eq, eq-eqb, ne_eqb}
use Rattle.std.proofs.lemmas.List.{append-nil, get_or-set_same, get_or-set_other, length-append, length-map, length-set, map-append}
use Rattle.std.proofs.lemmas.List.Sums.{sum_by_push}
use Rattle.std.proofs.lemmas.Option.{get_or_from_slice_get, slice_get_within}
use Rattle.indexmap.specs.IndexMap.{IndexMap, spare}
use Rattle.net_names.specs.Numbers.{occurs}
use Rattle.as_places.specs.Places.{place_of}
use Rattle.as_places.proofs.PlaceLemmas.{at_place, distinct_push, place_append}
use Rattle.route_choice.specs.declared.held.Held.{Held}
use Rattle.route_choice.specs.declared.slot.Slot.{Slot}
use Rattle.route_choice.specs.declared.row.Row.{Row}
use Rattle.route_choice.specs.Rows.{entry_in, asns_of, entries_of}
use Rattle.route_choice.specs.Slots.{Slots, slot_at, use_of, uses_in}
use Rattle.route_choice.specs.Dense.{marked, marked_or, row_of, IsDense}
use Rattle.route_choice.proofs.RowLemmas.{pair_beside, pair_placed, row_with, slot_beside, slot_placed, written_keys, written_others, written_this, written_uses}
use Rattle.route_choice.proofs.Uses.{occurs-keys}

-- a place lies in the list
pub place_within : (ases : List ℕ) (a i : ℕ) → place_of ases a ≡ Some i → i < length ases
place_within ases a i at = slice_get_within ases i a (at_place ases a i at)

-- two ASes have two places
pub places_differ : (ases : List ℕ) (a b i j : ℕ) → b ≢ a → place_of ases a ≡ Some i → place_of ases b ≡ Some j → j ≢ i
places_differ ases a b i j ne at there = λ same. ne (
    sym (get_or_from_slice_get ases j b 0 (at_place ases b j there)) ∙ ap (λ k. get_or ases k 0) same ∙ get_or_from_slice_get ases i a 0 (at_place ases a i at))

-- a number behind a list gets no place before, and leaves the places of the others
pub place_push_this : (xs : List ℕ) (a : ℕ) → occurs a xs ≡ false → place_of (xs ++ a ∷ []) a ≡ Some (length xs)
place_push_this xs a none =
    place_append xs (a ∷ []) a none
    ∙ ap (λ b. option_map (λ i. length xs + i) (cond b (Some 0) None)) (eq-eqb a a refl)
    ∙ ap Some (omega arith)

pub place_push_other : (xs : List ℕ) (a b : ℕ) → b ≢ a → place_of (xs ++ a ∷ []) b ≡ place_of xs b
place_push_other [] a b ne = ap (λ t. cond t (Some 0) None) (ne_eqb a b (λ e. ne (sym e)))
place_push_other (x ∷ xs) a b ne = ap (λ o. cond (x == b) (Some 0) (option_map suc o)) (place_push_other xs a b ne)

marked_next : (n : ℕ) → marked (n + 1) ≡ Some n
marked_next n =
    let back : n + 1 - 1 ≡ n = omega arith in
    ap (λ b. cond b None (Some (n + 1 - 1))) (ne_eqb (n + 1) 0 (λ e. omega (arith, e))) ∙ ap Some back

-- a mark that is set names the row, and the others stay
module _ (ases marks : List ℕ) (a i row : ℕ) (at : place_of ases a ≡ Some i) (len : length marks ≡ length ases) where
  pub mark_this : (late : Option ℕ) → marked_or late (set marks i (row + 1)) (place_of ases a) ≡ Some row
  mark_this late =
      ap (marked_or late (set marks i (row + 1))) at
      ∙ ap marked (get_or-set_same marks i (row + 1) 0 (omega (arith, len, place_within ases a i at)))
      ∙ marked_next row

  pub mark_other : (late : Option ℕ) (b : ℕ) → b ≢ a → marked_or late (set marks i (row + 1)) (place_of ases b) ≡ marked_or late marks (place_of ases b)
  mark_other late b ne = by (place_of ases b) refl
    where
      by : (o : Option ℕ) → place_of ases b ≡ o → marked_or late (set marks i (row + 1)) o ≡ marked_or late marks o
      by None e = refl
      by (Some j) e = ap marked (get_or-set_other marks i j (row + 1) 0 (places_differ ases a b i j ne at e))

-- the ASes of rows, and what stands at them
pub keys_rows : (rows : List Row) → keys_of (entries_of rows) ≡ asns_of rows
keys_rows [] = refl
keys_rows (r ∷ rs) = ap (λ l. r.asn ∷ l) (keys_rows rs)

pub slot_row : (rows : List Row) (a i : ℕ) (d : Row) → place_of (asns_of rows) a ≡ Some i → lookup (nat_eq a) (entries_of rows) ≡ Some (entry_in (get_or rows i d).slot)
slot_row rows a i d at = ap (lookup (nat_eq a)) (sym (append-nil (entries_of rows))) ∙ slot_placed rows [] a i d at

pub slot_none : (rows : List Row) (a : ℕ) → place_of (asns_of rows) a ≡ None → lookup (nat_eq a) (entries_of rows) ≡ None
slot_none rows a at = ap (lookup (nat_eq a)) (sym (append-nil (entries_of rows))) ∙ slot_beside rows [] a at

-- as the value that is seen has it
pub seen_none : (rows : List Row) (a : ℕ) {room : ℕ} {v : Slots} → record { entries = entries_of rows; spare = room } ≡ v → place_of (asns_of rows) a ≡ None → slot_at v a ≡ None
seen_none rows a seen at = sym (ap (λ (s : Slots). slot_at s a) seen) ∙ slot_none rows a at

pub absent_row : (rows : List Row) (a : ℕ) → lookup (nat_eq a) (entries_of rows) ≡ None → occurs a (asns_of rows) ≡ false
absent_row rows a none = ap (occurs a) (sym (keys_rows rows)) ∙ occurs-keys (entries_of rows) a ∙ ap is_some none

pub asns_push : (rows : List Row) (r : Row) → asns_of (rows ++ r ∷ []) ≡ asns_of rows ++ r.asn ∷ []
asns_push rows r = map-append (λ (q : Row). q.asn) rows (r ∷ [])

pub entries_push : (rows : List Row) (r : Row) → entries_of (rows ++ r ∷ []) ≡ entries_of rows ++ (r.asn, entry_in r.slot) ∷ []
entries_push rows r = map-append (λ (q : Row). (q.asn, entry_in q.slot)) rows (r ∷ [])

-- a pair behind others whose AS is new
module _ (es : List (ℕ × Option Held)) (a : ℕ) (e : Option Held) where
  pub pair_others : (b : ℕ) → b ≢ a → lookup (nat_eq b) (es ++ (a, e) ∷ []) ≡ lookup (nat_eq b) es
  pair_others b ne = by es
    where
      by : (l : List (ℕ × Option Held)) → lookup (nat_eq b) (l ++ (a, e) ∷ []) ≡ lookup (nat_eq b) l
      by [] = ap (λ t. cond t (Some e) None) (ne_eqb b a ne)
      by (p ∷ ps) = ap (cond (nat_eq b p.0) (Some p.1)) (by ps)

  pub pair_this : lookup (nat_eq a) es ≡ None → lookup (nat_eq a) (es ++ (a, e) ∷ []) ≡ Some e
  pair_this none = by es none
    where
      by : (l : List (ℕ × Option Held)) → lookup (nat_eq a) l ≡ None → lookup (nat_eq a) (l ++ (a, e) ∷ []) ≡ Some e
      by [] n = ap (λ t. cond t (Some e) None) (eq-eqb a a refl)
      by (p ∷ ps) n = step (nat_eq a p.0) n (by ps)
        where
          step : (t : Bool) → cond t (Some p.1) (lookup (nat_eq a) ps) ≡ None → (lookup (nat_eq a) ps ≡ None → lookup (nat_eq a) (ps ++ (a, e) ∷ []) ≡ Some e) → cond t (Some p.1) (lookup (nat_eq a) (ps ++ (a, e) ∷ [])) ≡ Some e
          step true q ih = cc
          step false q ih = ih q

  pub pair_keys : keys_of (es ++ (a, e) ∷ []) ≡ keys_of es ++ a ∷ []
  pair_keys = map-append _ es ((a, e) ∷ [])

  pub pair_uses : (k : ℕ) → uses_in (es ++ (a, e) ∷ []) k ≡ uses_in es k + use_of k e
  pair_uses k = ap (sum_by (use_of k)) (map-append _ es ((a, e) ∷ [])) ∙ sum_by_push (use_of k) (values_of es) e

-- one more row
module _ (rows rows' : List Row) (r : Row) (new : lookup (nat_eq r.asn) (entries_of rows) ≡ None) (pushed : rows' ≡ rows ++ r ∷ []) where
  asns_more : asns_of rows' ≡ asns_of rows ++ r.asn ∷ []
  asns_more = ap asns_of pushed ∙ asns_push rows r

  away_before : occurs r.asn (asns_of rows) ≡ false
  away_before = absent_row rows r.asn new

  found_this : place_of (asns_of rows') r.asn ≡ Some (length rows)
  found_this = ap (λ l. place_of l r.asn) asns_more ∙ place_push_this (asns_of rows) r.asn away_before ∙ ap Some (length-map rows (λ (q : Row). q.asn))

  found_other : (a : ℕ) → a ≢ r.asn → place_of (asns_of rows') a ≡ place_of (asns_of rows) a
  found_other a ne = ap (λ l. place_of l a) asns_more ∙ place_push_other (asns_of rows) r.asn a ne

module _ {S : Type 0} {ases marks marks' : List ℕ} {late late' : IndexMap ℕ ℕ S} {rows rows' : List Row} {cap cap' room room' : ℕ} (kept : IsDense ases marks late rows cap room) (r : Row)
    (new : lookup (nat_eq r.asn) (entries_of rows) ≡ None) (pushed : rows' ≡ rows ++ r ∷ []) where
  pub dense_push : row_of ases marks' late' r.asn ≡ Some (length rows) → ((a : ℕ) → a ≢ r.asn → row_of ases marks' late' a ≡ row_of ases marks late a) →
      length marks' ≡ length marks → cap ≤ cap' → room ≡ room' + 1 → spare late ≤ spare late' + 1 → IsDense ases marks' late' rows' cap' room'
  dense_push this others same cap_is room_is spare_is =
      let longer : length rows' ≡ length rows + 1 = ap length pushed ∙ length-append rows (r ∷ []) in
      record {
        found = λ a. elim (cases_eq a r.asn) [
          | inl is ↦ ap (place_of (asns_of rows')) is ∙ found_this rows rows' r new pushed ∙ sym this ∙ ap (row_of ases marks' late') (sym is)
          | inr ne ↦ found_other rows rows' r new pushed a ne ∙ kept.found a ∙ sym (others a ne)
        ];
        all_marked = same ∙ kept.all_marked;
        apart = subst (IsDistinct nat_eq) (sym (asns_more rows rows' r new pushed)) (distinct_push (asns_of rows) r.asn kept.apart (away_before rows rows' r new pushed));
        rows_room = omega (arith, longer, kept.rows_room, cap_is, room_is);
        late_room = omega (arith, kept.late_room, room_is, spare_is);
        small = omega (arith, longer, kept.small, room_is);
      }

-- the row that was found
module _ {S : Type 0} {ases given marks shown : List ℕ} {late : IndexMap ℕ ℕ S} {rows : List Row} {cap room : ℕ} {found o : Option ℕ} (kept : IsDense ases marks late rows cap room) (a : ℕ) where
  pub row_found : given ≡ ases → shown ≡ marks → found ≡ row_of given shown late a → found ≡ o → place_of (asns_of rows) a ≡ o
  row_found list same told is = kept.found a ∙ ap (λ l. row_of l marks late a) (sym list) ∙ ap (λ m. row_of given m late a) (sym same) ∙ sym told ∙ is

-- the pair at an index
pub pair_read : (rows : List Row) (i : ℕ) (d : Row) → i < length rows → slice_get (entries_of rows) i ≡ Some ((get_or rows i d).asn, entry_in (get_or rows i d).slot)
pair_read rows i d less = ap (λ l. slice_get l i) (sym (append-nil (entries_of rows))) ∙ pair_placed rows [] i d less

pub pair_past : (rows : List Row) (i : ℕ) → length rows ≤ i → slice_get (entries_of rows) i ≡ None
pair_past rows i past = ap (λ l. slice_get l i) (sym (append-nil (entries_of rows))) ∙ pair_beside rows [] i past

-- another slot in a row
module _ (rows : List Row) (a i : ℕ) (d : Row) (s : Slot) (at : place_of (asns_of rows) a ≡ Some i) (read : d ≡ get_or rows i d) where
  bare : (l : List Row) → entries_of l ≡ entries_of l ++ []
  bare l = sym (append-nil (entries_of l))

  pub slot_this : lookup (nat_eq a) (entries_of (set rows i (row_with d s))) ≡ Some (entry_in s)
  slot_this = ap (lookup (nat_eq a)) (bare (set rows i (row_with d s))) ∙ written_this rows a i d [] s at read

  pub slot_others : (b : ℕ) → b ≢ a → lookup (nat_eq b) (entries_of (set rows i (row_with d s))) ≡ lookup (nat_eq b) (entries_of rows)
  slot_others b ne = ap (lookup (nat_eq b)) (bare (set rows i (row_with d s))) ∙ written_others rows a i d [] s at read b ne ∙ ap (lookup (nat_eq b)) (sym (bare rows))

  pub slot_keys : keys_of (entries_of (set rows i (row_with d s))) ≡ keys_of (entries_of rows)
  slot_keys = ap keys_of (bare (set rows i (row_with d s))) ∙ written_keys rows a i d [] s at read ∙ ap keys_of (sym (bare rows))

  pub slot_uses : (e : Row) (k : ℕ) → uses_in (entries_of (set rows i (row_with d s))) k + use_of k (entry_in (get_or rows i e).slot) ≡ uses_in (entries_of rows) k + use_of k (entry_in s)
  slot_uses e k = omega (
    arith,
    written_uses rows a i d [] s at read e k,
    ap (λ l. uses_in l k) (bare (set rows i (row_with d s))),
    ap (λ l. uses_in l k) (bare rows),
  )

  pub slot_kept : {S : Type 0} {ases marks : List ℕ} {late : IndexMap ℕ ℕ S} {cap room : ℕ} → IsDense ases marks late rows cap room → IsDense ases marks late (set rows i (row_with d s)) cap room
  slot_kept kept =
      let same : asns_of (set rows i (row_with d s)) ≡ asns_of rows = sym (keys_rows (set rows i (row_with d s))) ∙ slot_keys ∙ keys_rows rows in
      let long : length (set rows i (row_with d s)) ≡ length rows = length-set rows i (row_with d s) in
      record {
        found = λ b. ap (λ l. place_of l b) same ∙ kept.found b;
        all_marked = kept.all_marked;
        apart = subst (IsDistinct nat_eq) (sym same) kept.apart;
        rows_room = omega (arith, long, kept.rows_room);
        late_room = kept.late_room;
        small = omega (arith, long, kept.small);
      }
