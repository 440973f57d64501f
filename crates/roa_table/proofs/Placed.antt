-- Payloads in rising order: where the prefixes of a list end, and the sets of lists.
use Rattle.std.proofs.Common.{◌≡◌, ℕ, zero, suc, ◌≤◌, ◌<◌, Bool, true, false, not, ◌||◌, ◌&&◌, List, [], ◌∷◌, ◌++◌, length, take, drop, get_or, refl, sym, ap, subst, ◌∙◌, arith, ◌⊎◌, inl, inr, is_some, Result, Ok, Err}
use Rattle.std.specs.List.{insert, remove, list_any, list_all}
use Rattle.std.specs.Prelude.{is_ok}
use Rattle.std.specs.List.Sorted.{IsPartitionPoint, IsPartitionedBy, IsSearchInRange, IsBinarySearchResult}
use Rattle.std.proofs.lemmas.List.{length-map}
use Rattle.std.proofs.lemmas.Bool.{cases_lt}
use Rattle.std.specs.declared.cmp.Ordering.{Ordering}
use Rattle.std.specs.declared.cmp.Ordering.TheVariants.{Less, Equal, Greater}
use Rattle.std.specs.Ordering.{is_lt, eq_by_cmp, nat_cmp, ordering_then, ordering_reverse}
use Rattle.std.specs.Cmp.{tied_itself}
use Rattle.std.specs.FinMap as fin
use Rattle.net_names.specs.Prefixes.{PrefixValue, prefix_cmp}
use Rattle.net_names.specs.Payloads.{VrpValue, vrp_cmp}
use Rattle.net_names.specs.Orders.{prefix_total, exact_prefix, vrp_total, exact_vrp}
use Rattle.roa_table.specs.Sets.{Payloads, no_payloads, has, added, taken, items, count, set_of}
use Rattle.roa_table.specs.Lists.{IsRising, is_below, is_to, is_above, row_in, CutsAt, are_apart, IsPart, is_rising, stands_in, PutsIn, TakesOut}
use Rattle.net_names.proofs.Shortening.{both, both_true}
use Rattle.roa_table.proofs.Booleans.{not_true, not_false, not-false, list_all_mono, list_any_opposite, list_all_opposite, filter_middle, list_any_take, all_take, all_drop, in_front, all_insert, all_remove}
use Rattle.roa_table.proofs.Rising.{less, lt_le, le_lt, lt_not, lt_not_tied, gt_not_tied, tied, rising_at, rising_keys, same_lists, same_members, contains_insert, contains_remove, any_insert, any_remove, found_by, gap_by, place_by, rising_insert, rising_remove, eq_is}

-- the payloads of a lower prefix come first
pub prefix_first : (v w : VrpValue) → is_lt (prefix_cmp v.prefix w.prefix) ≡ true → is_lt (vrp_cmp v w) ≡ true
prefix_first v w e = ap (λ r. is_lt (ordering_then r (ordering_then (nat_cmp v.max w.max) (nat_cmp v.asn w.asn)))) (less _ e)

-- and so no payload after another one has a lower prefix
pub no_lower : (v w : VrpValue) → is_lt (vrp_cmp v w) ≡ true → is_lt (prefix_cmp w.prefix v.prefix) ≡ false
no_lower v w e = by (prefix_cmp v.prefix w.prefix) refl e
  where
    rest : Ordering
    rest = ordering_then (nat_cmp v.max w.max) (nat_cmp v.asn w.asn)

    by : (r : Ordering) → prefix_cmp v.prefix w.prefix ≡ r → is_lt (ordering_then r (ordering_then (nat_cmp v.max w.max) (nat_cmp v.asn w.asn))) ≡ true → is_lt (prefix_cmp w.prefix v.prefix) ≡ false
    by Less g h = lt_not prefix_total exact_prefix v.prefix w.prefix (ap is_lt g)
    by Equal g h = ap is_lt (prefix_total.antisymm w.prefix v.prefix ∙ ap ordering_reverse g)
    by Greater g h = cc h

-- a test that each earlier payload passes where a later one does
abbrev Keeps : (VrpValue → Bool) → Type 0
Keeps p = (v w : VrpValue) → is_lt (vrp_cmp v w) ≡ true → p w ≡ true → p v ≡ true

below_keeps : (q : PrefixValue) → Keeps (is_below q)
below_keeps q v w l e = le_lt prefix_total exact_prefix v.prefix w.prefix q (no_lower v w l) e

to_keeps : (q : PrefixValue) → Keeps (is_to q)
to_keeps q v w l e = by (is_lt (prefix_cmp q v.prefix)) refl
  where
    by : (b : Bool) → is_lt (prefix_cmp q v.prefix) ≡ b → not b ≡ true
    by false g = refl
    by true g = cc (not_true _ e, lt_le prefix_total exact_prefix q v.prefix w.prefix g (no_lower v w l))

parted : (p : VrpValue → Bool) → Keeps p → (vs : List VrpValue) → IsRising vs → IsPartitionedBy p vs
parted p keeps vs h i j d le lt e = by (cases_lt i j)
  where
    by : (i < j) ⊎ (j ≤ i) → p (get_or vs i d) ≡ true
    by (inl below) = keeps (get_or vs i d) (get_or vs j d) (rising_at vrp_total exact_vrp vs h i j d below lt) e
    by (inr above) = let same : j ≡ i = omega arith in ap (λ n. p (get_or vs n d)) (sym same) ∙ e

pub parted_below : (q : PrefixValue) (vs : List VrpValue) → IsRising vs → IsPartitionedBy (is_below q) vs
parted_below q = parted (is_below q) (below_keeps q)

pub parted_to : (q : PrefixValue) (vs : List VrpValue) → IsRising vs → IsPartitionedBy (is_to q) vs
parted_to q = parted (is_to q) (to_keeps q)

pub cuts_at : (p : VrpValue → Bool) (vs : List VrpValue) (n : ℕ) → n ≤ length vs → IsPartitionPoint (λ v. p v ≡ true) (λ v. p v ≡ false) vs n → CutsAt p vs n
cuts_at p vs n le point = record {
  inside = le;
  front = all_take p vs n le (λ j d lt. point.0 j d (omega arith) lt);
  back = list_any_opposite (λ v. not (p v)) p (λ v e. not_true _ e) (drop n vs) (all_drop (λ v. not (p v)) vs n (λ j d a lt. not-false _ (point.1 j d a lt)));
}

-- where the first payload fails the test, all fail it
pub cuts_none : (q : PrefixValue) (vs : List VrpValue) (v : VrpValue) → IsRising vs → v ≡ get_or vs 0 v → is_to q v ≡ false → CutsAt (is_to q) vs 0
cuts_none q [] v rising first above = record { inside = omega arith; front = refl; back = refl }
cuts_none q (x ∷ xs) v rising first above = cuts_at (is_to q) (x ∷ xs) 0 (omega arith) (λ j d le lt. absurd (omega (arith, lt)), λ j d le lt. by j d le lt (is_to q (get_or (x ∷ xs) j d)) refl)
  where
    by : (j : ℕ) (d : VrpValue) → 0 ≤ j → j < length (x ∷ xs) → (b : Bool) → is_to q (get_or (x ∷ xs) j d) ≡ b → b ≡ false
    by j d le lt false e = refl
    by j d le lt true e = cc (above, parted_to q (x ∷ xs) rising 0 j d le lt e)

take-append-drop : {A : Type 0} (n : ℕ) (xs : List A) → take n xs ++ drop n xs ≡ xs
take-append-drop zero [] = refl
take-append-drop zero (x ∷ xs) = refl
take-append-drop (suc n) [] = refl
take-append-drop (suc n) (x ∷ xs) = ap (λ l. x ∷ l) (take-append-drop n xs)

-- what is neither below the prefix nor above it has it
pub row_middle : (q : PrefixValue) (front mid back : List VrpValue) → list_all (is_below q) front ≡ true → list_any (is_below q) mid ≡ false → list_all (is_to q) mid ≡ true → list_any (is_to q) back ≡ false → row_in q (front ++ (mid ++ back)) ≡ mid
row_middle q front mid back f low high b = filter_middle (λ v. eq_by_cmp prefix_cmp v.prefix q) front mid back
    (list_any_opposite (is_below q) (λ v. eq_by_cmp prefix_cmp v.prefix q) (λ v e. lt_not_tied prefix_total exact_prefix v.prefix q e) front f)
    (all_tied mid low high)
    (list_any_opposite (is_above q) (λ v. eq_by_cmp prefix_cmp v.prefix q) (λ v e. gt_not_tied prefix_total exact_prefix v.prefix q e) back
    (list_all_opposite (is_to q) (is_above q) (λ v e. not_false _ e) back b))
  where
    all_tied : (vs : List VrpValue) → list_any (is_below q) vs ≡ false → list_all (is_to q) vs ≡ true → list_all (λ v. eq_by_cmp prefix_cmp v.prefix q) vs ≡ true
    all_tied [] l h = refl
    all_tied (v ∷ vs) l h =
        let e = both _ _ h in
        let f = either_false (is_below q v) (list_any (is_below q) vs) l in
        both_true _ _ (tied prefix_total exact_prefix v.prefix q f.0 (not_true _ e.left)) (all_tied vs f.1 e.right)
      where
        either_false : (a b : Bool) → (a || b) ≡ false → (a ≡ false) × (b ≡ false)
        either_false true b e = cc e
        either_false false b e = (refl, e)

-- the payloads between two cuts are those of the prefix
pub row_between : (q : PrefixValue) (vs : List VrpValue) (n m : ℕ) → CutsAt (is_below q) vs n → CutsAt (is_to q) (drop n vs) m → row_in q vs ≡ take m (drop n vs)
row_between q vs n m low high =
    ap (row_in q) (sym (ap (λ l. take n vs ++ l) (take-append-drop m (drop n vs)) ∙ take-append-drop n vs))
    ∙ row_middle q (take n vs) (take m (drop n vs)) (drop m (drop n vs)) low.front (list_any_take (is_below q) m (drop n vs) low.back) high.front high.back

-- a cut between payloads below a prefix and others parts the prefixes, and so does one between those up to it and others
pub apart_below : (q : PrefixValue) (vs ws : List VrpValue) → list_all (is_below q) vs ≡ true → list_any (is_below q) ws ≡ false → are_apart vs ws ≡ true
apart_below q vs ws f b = list_all_mono (is_below q) (λ v. list_all (λ w. is_below w.prefix v) ws)
    (λ v e. list_all_mono (λ w. not (is_below q w)) (λ w. is_below w.prefix v) (λ w k. lt_le prefix_total exact_prefix v.prefix q w.prefix e (not_true _ k)) ws (list_all_opposite (is_below q) (λ w. not (is_below q w)) (λ w k. ap not k) ws b)) vs f

pub apart_to : (q : PrefixValue) (vs ws : List VrpValue) → list_all (is_to q) vs ≡ true → list_any (is_to q) ws ≡ false → are_apart vs ws ≡ true
apart_to q vs ws f b = list_all_mono (is_to q) (λ v. list_all (λ w. is_below w.prefix v) ws)
    (λ v e. list_all_mono (is_above q) (λ w. is_below w.prefix v) (λ w k. le_lt prefix_total exact_prefix v.prefix q w.prefix (not_true _ e) k) ws (list_all_opposite (is_to q) (is_above q) (λ w k. not_false _ k) ws b)) vs f

-- a place before which all are below a prefix, and none behind it is, parts the prefixes
pub parts_below : (q : PrefixValue) (vs : List VrpValue) (n : ℕ) → CutsAt (is_below q) vs n → are_apart (take n vs) (drop n vs) ≡ true
parts_below q vs n c = apart_below q (take n vs) (drop n vs) c.front c.back

pub nothing_before : (vs : List VrpValue) → are_apart (take 0 vs) (drop 0 vs) ≡ true
nothing_before [] = refl
nothing_before (v ∷ vs) = refl

pub below_parts : (q : PrefixValue) (vs : List VrpValue) (n : ℕ) → CutsAt (is_below q) vs n → 1 ≤ n → IsPart vs n
below_parts q vs n c h = record { inside = c.inside; some = h; apart = apart_below q (take n vs) (drop n vs) c.front c.back }

-- where a payload has the prefix, the place behind all up to it parts the prefixes
pub to_parts : (q : PrefixValue) (vs : List VrpValue) (n k : ℕ) (v : VrpValue) → CutsAt (is_to q) vs n → k < length vs → v ≡ get_or vs k v → v.prefix ≡ q → IsPart vs n
to_parts q vs n k v c lt at is = record {
  inside = c.inside;
  some = omega (arith, in_front (is_to q) vs n c.back k v lt (ap (is_to q) (sym at) ∙ ap (λ p. not (is_lt (prefix_cmp q p))) is ∙ ap (λ r. not (is_lt r)) (tied_itself prefix_total q)));
  apart = apart_to q (take n vs) (drop n vs) c.front c.back;
}

-- the members, the items and the number of a list's set
pub no_member : (q : VrpValue) → has no_payloads q ≡ false
no_member q = ap is_some (fin.get-empty vrp_cmp q)

pub has_set_of : (vs : List VrpValue) (q : VrpValue) → has (set_of vs) q ≡ list_any (eq_by_cmp vrp_cmp q) vs
has_set_of [] q = no_member q
has_set_of (v ∷ vs) q = contains_insert vrp_total exact_vrp (set_of vs) v q ∙ ap (λ b. eq_by_cmp vrp_cmp q v || b) (has_set_of vs q)

pub items_set_of : (vs : List VrpValue) → IsRising vs → items (set_of vs) ≡ vs
items_set_of vs h = same_lists vrp_total exact_vrp (items (set_of vs)) vs (rising_keys vrp_cmp (set_of vs)) h (λ q. sym (fin.contains_key-keys (set_of vs) q) ∙ has_set_of vs q)

pub count_items : (s : Payloads) → count s ≡ length (items s)
count_items s = fin.len-entries s ∙ sym (length-map (fin.entries s) (λ e. e.0))

pub count_set_of : (vs : List VrpValue) → IsRising vs → count (set_of vs) ≡ length vs
count_set_of vs h = count_items (set_of vs) ∙ ap length (items_set_of vs h)

-- lists with the same members have the same set
pub same_set_of : (vs ws : List VrpValue) → ((q : VrpValue) → list_any (eq_by_cmp vrp_cmp q) vs ≡ list_any (eq_by_cmp vrp_cmp q) ws) → set_of vs ≡ set_of ws
same_set_of vs ws e = same_members vrp_total exact_vrp (set_of vs) (set_of ws) (λ q. has_set_of vs q ∙ e q ∙ sym (has_set_of ws q))

-- what a search for a payload finds, and what the list is after it was put there or taken out
module _ (vs m : List VrpValue) (read : m ≡ vs) (h : IsRising vs) (v : VrpValue) where
  pub found : (r : Result ℕ ℕ) → IsSearchInRange r (length m) → IsBinarySearchResult (λ y. vrp_cmp y v) m r → is_ok r ≡ stands_in vs v
  found r bound position = found_by vrp_total exact_vrp vs v r h (subst (λ l. IsSearchInRange r (length l)) read bound) (subst (λ l. IsBinarySearchResult (λ y. vrp_cmp y v) l r) read position)

  pub puts : (at : ℕ) (new : List VrpValue) → IsSearchInRange (Err at) (length m) → IsBinarySearchResult (λ y. vrp_cmp y v) m (Err at) → new ≡ insert vs at v → PutsIn vs new v
  puts at new bound position e =
      let gap = gap_by vrp_total exact_vrp vs v at h (subst (λ l. IsSearchInRange (Err at) (length l)) read bound) (subst (λ l. IsBinarySearchResult (λ y. vrp_cmp y v) l (Err at)) read position) in
      record {
        rising = ap (is_rising vrp_cmp) e ∙ rising_insert vrp_total exact_vrp vs v at h gap;
        members = λ q. ap (λ l. stands_in l q) e ∙ any_insert vrp_total exact_vrp q v vs at;
        tests = λ p all one. ap (list_all p) e ∙ all_insert p vs at v all one;
      }

  pub puts_none : (at : ℕ) → IsSearchInRange (Ok at) (length m) → IsBinarySearchResult (λ y. vrp_cmp y v) m (Ok at) → PutsIn vs vs v
  puts_none at bound position = record { rising = h; members = λ q. by q (eq_by_cmp vrp_cmp q v) refl (sym (found (Ok at) bound position)); tests = λ p all one. all }
    where
      by : (q : VrpValue) (b : Bool) → eq_by_cmp vrp_cmp q v ≡ b → stands_in vs v ≡ true → stands_in vs q ≡ (b || stands_in vs q)
      by q true e s = ap (stands_in vs) (eq_is vrp_total exact_vrp q v e) ∙ s
      by q false e s = refl

  pub takes : (at : ℕ) (new : List VrpValue) → IsSearchInRange (Ok at) (length m) → IsBinarySearchResult (λ y. vrp_cmp y v) m (Ok at) → new ≡ remove vs at → TakesOut vs new v
  takes at new bound position e =
      let place = place_by vrp_total exact_vrp vs v at (subst (λ l. IsSearchInRange (Ok at) (length l)) read bound) (subst (λ l. IsBinarySearchResult (λ y. vrp_cmp y v) l (Ok at)) read position) in
      record {
        rising = ap (is_rising vrp_cmp) e ∙ rising_remove vrp_total exact_vrp vs at h;
        members = λ q. ap (λ l. stands_in l q) e ∙ any_remove vrp_total exact_vrp q v vs at h place;
        tests = λ p all. ap (list_all p) e ∙ all_remove p vs at all;
      }

  pub takes_none : (at : ℕ) → IsSearchInRange (Err at) (length m) → IsBinarySearchResult (λ y. vrp_cmp y v) m (Err at) → TakesOut vs vs v
  takes_none at bound position = record { rising = h; members = λ q. by q (eq_by_cmp vrp_cmp q v) refl (sym (found (Err at) bound position)); tests = λ p all. all }
    where
      by : (q : VrpValue) (b : Bool) → eq_by_cmp vrp_cmp q v ≡ b → stands_in vs v ≡ false → stands_in vs q ≡ (not b && stands_in vs q)
      by q true e s = ap (stands_in vs) (eq_is vrp_total exact_vrp q v e) ∙ s
      by q false e s = refl

-- the set of a list after it
pub set_put : (old new : List VrpValue) (v : VrpValue) → ((q : VrpValue) → stands_in new q ≡ (eq_by_cmp vrp_cmp q v || stands_in old q)) → set_of new ≡ added (set_of old) v
set_put old new v members = same_members vrp_total exact_vrp _ _ (λ q.
    has_set_of new q ∙ members q ∙ ap (λ b. eq_by_cmp vrp_cmp q v || b) (sym (has_set_of old q)) ∙ sym (contains_insert vrp_total exact_vrp (set_of old) v q))

pub set_take : (old new : List VrpValue) (v : VrpValue) → ((q : VrpValue) → stands_in new q ≡ (not (eq_by_cmp vrp_cmp q v) && stands_in old q)) → set_of new ≡ taken (set_of old) v
set_take old new v members = same_members vrp_total exact_vrp _ _ (λ q.
    has_set_of new q ∙ members q ∙ ap (λ b. not (eq_by_cmp vrp_cmp q v) && b) (sym (has_set_of old q)) ∙ sym (contains_remove vrp_total exact_vrp (set_of old) v q))
