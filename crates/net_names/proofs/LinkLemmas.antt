-- Links in rising order as a finite map: what a search, an insertion and a change say of the map.
use Rattle.std.proofs.Common.{◌≡◌, ℕ, ◌+◌, ◌≤◌, ◌<◌, Bool, List, [], ◌∷◌, ◌++◌, map, length, take, get_or, set, refl, sym, ap, subst, ◌∙◌, arith, get_or-take, inl, inr, Ok, Err, Option, Some, None, option_map, length-set, zero, suc}
use Rattle.std.specs.Prelude.{nat_lt, slice_get}
use Rattle.std.specs.List.{insert}
use Rattle.std.specs.declared.cmp.Ordering.TheVariants.{Less, Equal, Greater}
use Rattle.std.specs.List.Sorted.{IsSearchInRange, IsBinarySearchResult}
use Rattle.std.proofs.lemmas.List.{length-map, length-take-le, take_more}
use Rattle.std.proofs.lemmas.List.Edits.{length-insert, insert_end}
use Rattle.std.proofs.lemmas.Bool.{lt-ltb, ltb-true, cases_lt}
use Rattle.std.proofs.lemmas.Option.{slice_get_past}
use Rattle.std.specs.FinMap as fin
use Rattle.net_names.specs.declared.routes.Rel.{Rel}
use Rattle.net_names.specs.declared.links.Link.{Link}
use Rattle.net_names.specs.Links.{pair_cmp, LinkMap}
use Rattle.net_names.specs.LinkLists.{entry_of, map_of, AreLinks}
use Rattle.net_names.proofs.Pairs.{exact_pair, pairs_total}
use Rattle.net_names.proofs.Rising as rising

abbrev key : Link → ℕ × ℕ
key l = (l.lo, l.hi)

abbrev rel_of : Link → Rel
rel_of l = l.rel

abbrev ordered : Link → Bool
ordered l = nat_lt l.lo l.hi

pub count : (xs : List Link) → AreLinks xs → fin.len (map_of xs) ≡ length xs
count xs w = fin.len-entries (map_of xs) ∙ (ap (λ (es : List ((ℕ × ℕ) × Rel)). length es) (fin.entries-from_sorted pair_cmp (map entry_of xs) w.rising) ∙ length-map xs entry_of)

pub nothing : map_of [] ≡ fin.empty
nothing = fin.empty_of_len (map_of []) (fin.len-entries (map_of []) ∙ ap (λ (es : List ((ℕ × ℕ) × Rel)). length es) (fin.entries-from_sorted pair_cmp [] tt))

entry_at : (xs : List Link) (i : ℕ) → option_map entry_of (slice_get xs i) ≡ slice_get (map entry_of xs) i
entry_at [] i = refl
entry_at (x ∷ xs) zero = refl
entry_at (x ∷ xs) (suc i) = entry_at xs i

-- the search may be of a list that is equal to the one of the map
module _ (xs s : List Link) (e : s ≡ xs) (w : AreLinks xs) (m : LinkMap) (v : map_of xs ≡ m) (lo hi at : ℕ) where
  abbrev Found : Type 0
  Found = IsSearchInRange (Ok at) (length s) × IsBinarySearchResult (λ l. pair_cmp (l.lo, l.hi) (lo, hi)) s (Ok at)

  abbrev Missed : Type 0
  Missed = IsSearchInRange (Err at) (length s) × IsBinarySearchResult (λ l. pair_cmp (l.lo, l.hi) (lo, hi)) s (Err at)

  gap : Missed → rising.IsGap pair_cmp key rel_of xs (lo, hi) at
  gap h =
      let P : List Link → Type 0 = λ t. IsSearchInRange (Err at) (length t) × IsBinarySearchResult (λ l. pair_cmp (l.lo, l.hi) (lo, hi)) t (Err at) in
      let k = subst P e h in
      rising.gap_by pair_cmp key rel_of pairs_total exact_pair xs (lo, hi) at w.rising k.0 k.1

  place : Found → rising.IsPlace pair_cmp key rel_of xs (lo, hi) at
  place h =
      let P : List Link → Type 0 = λ t. IsSearchInRange (Ok at) (length t) × IsBinarySearchResult (λ l. pair_cmp (l.lo, l.hi) (lo, hi)) t (Ok at) in
      let k = subst P e h in
      rising.place_by pair_cmp key rel_of pairs_total exact_pair xs (lo, hi) at k.0 k.1

  pub missed : Missed → fin.get m (lo, hi) ≡ None
  missed h = ap (λ n. fin.get n (lo, hi)) (sym v) ∙ rising.get_gap pair_cmp key rel_of pairs_total exact_pair xs (lo, hi) at w.rising (gap h)

  pub found : (d : Link) → Found → fin.get m (lo, hi) ≡ Some (get_or xs at d).rel
  found d h = ap (λ n. fin.get n (lo, hi)) (sym v) ∙ rising.get_place pair_cmp key rel_of pairs_total exact_pair xs (lo, hi) at d w.rising (place h)

  -- the relation of the link that was found is changed
  module _ (d : Link) (is : d ≡ get_or xs at d) (r : Rel) (h : Found) where
    ends : key d ≡ (lo, hi)
    ends = exact_pair (key d) (lo, hi) (subst (λ l. pair_cmp (key l) (lo, hi) ≡ Equal) (sym is) ((place h).here d))

    abbrev changed_link : Link
    changed_link = record { lo = d.lo; hi = d.hi; rel = r }

    its_place : rising.IsPlace pair_cmp key rel_of xs (key changed_link) at
    its_place = subst (λ k. rising.IsPlace pair_cmp key rel_of xs k at) (sym ends) (place h)

    pub changed : AreLinks (set xs at changed_link)
    changed = record {
      rising = rising.rising_set pair_cmp key rel_of pairs_total exact_pair xs changed_link at w.rising its_place;
      lower = rising.all_set ordered xs at changed_link w.lower (ap ordered is ∙ rising.all_at ordered xs at d w.lower (place h).inside);
      few = subst (λ n. n ≤ 1500000) (sym (length-set xs at changed_link)) w.few;
    }

    pub changed_map : map_of (set xs at changed_link) ≡ fin.insert m (lo, hi) r
    changed_map = rising.map_set pair_cmp key rel_of pairs_total exact_pair xs changed_link at w.rising its_place ∙ (ap (λ k. fin.insert (map_of xs) k r) ends ∙ ap (λ n. fin.insert n (lo, hi) r) v)

  -- a link is put in where the search ended
  module _ (r : Rel) (lt : lo < hi) (h : Missed) where
    abbrev new_link : Link
    new_link = record { lo = lo; hi = hi; rel = r }

    pub inserted : (length xs ≡ 1500000 → ⊥) → AreLinks (insert xs at new_link)
    inserted room = record {
      rising = rising.rising_insert pair_cmp key rel_of pairs_total exact_pair xs new_link at w.rising (gap h);
      lower = rising.all_insert ordered xs at new_link w.lower (lt-ltb lo hi lt);
      few = let n = length-insert xs at new_link (gap h).inside in let f = w.few in omega (arith, n, f, room);
    }

    pub inserted_map : map_of (insert xs at new_link) ≡ fin.insert m (lo, hi) r
    inserted_map = rising.map_insert pair_cmp key rel_of pairs_total exact_pair xs new_link at w.rising (gap h) ∙ ap (λ n. fin.insert n (lo, hi) r) v

at_place : (xs : List Link) (w : AreLinks xs) (m : LinkMap) (v : map_of xs ≡ m) (i : ℕ) → option_map entry_of (slice_get xs i) ≡ slice_get (fin.entries m) i
at_place xs w m v i = entry_at xs i ∙ ap (λ (es : List ((ℕ × ℕ) × Rel)). slice_get es i) (sym (fin.entries-from_sorted pair_cmp (map entry_of xs) w.rising) ∙ ap (λ n. fin.entries n) v)

some_none : (r : Rel) → Some r ≡ None → ⊥
some_none r e = cc

pub there : (m : LinkMap) (lo hi : ℕ) (r : Rel) → fin.get m (lo, hi) ≡ Some r → fin.get m (lo, hi) ≡ None → ⊥
there m lo hi r e f = some_none r (sym e ∙ f)

pub counted : (xs : List Link) (w : AreLinks xs) (m : LinkMap) → map_of xs ≡ m → fin.len m ≡ length xs
counted xs w m v = ap (λ (n : LinkMap). fin.len n) (sym v) ∙ count xs w

got : (xs : List Link) (i : ℕ) (d : Link) → i < length xs → slice_get xs i ≡ Some (get_or xs i d)
got [] i d lt = absurd (omega (arith, lt))
got (x ∷ xs) zero d lt = refl
got (x ∷ xs) (suc i) d lt = got xs i d (omega (arith, lt))

pub at_some : (xs : List Link) (w : AreLinks xs) (m : LinkMap) → map_of xs ≡ m → (i : ℕ) (d : Link) → i < length xs → d ≡ get_or xs i d → Some (entry_of d) ≡ slice_get (fin.entries m) i
at_some xs w m v i d lt is = ap (λ (l : Link). Some (entry_of l)) is ∙ (ap (λ (o : Option Link). option_map entry_of o) (sym (got xs i d lt)) ∙ at_place xs w m v i)

pub at_none : (xs : List Link) (w : AreLinks xs) (m : LinkMap) → map_of xs ≡ m → (i : ℕ) → length xs ≤ i → None ≡ slice_get (fin.entries m) i
at_none xs w m v i le = ap (λ (o : Option Link). option_map entry_of o) (sym (slice_get_past xs i le)) ∙ at_place xs w m v i

pub at_lower : (xs : List Link) (w : AreLinks xs) (i : ℕ) (d : Link) → i < length xs → d ≡ get_or xs i d → d.lo < d.hi
at_lower xs w i d lt is = ltb-true d.lo d.hi (ap (λ (l : Link). nat_lt l.lo l.hi) is ∙ rising.all_at ordered xs i d w.lower lt)

-- ---- a list that is looked through

pub are_none : AreLinks []
are_none = record { rising = tt; lower = refl; few = omega arith }

-- the next link is above those before it
pub one_more : (xs : List Link) (i at : ℕ) (l : Link) (s : List Link) → length xs ≤ 1500000 → i < length xs → l ≡ get_or xs i l → s ≡ take i xs → AreLinks (take i xs) → l.lo < l.hi → at ≡ i
    → IsSearchInRange (Err at) (length s) → IsBinarySearchResult (λ k. pair_cmp (k.lo, k.hi) (l.lo, l.hi)) s (Err at) → AreLinks (take (i + 1) xs)
one_more xs i at l s few lt is e w lower here bound position =
    let len : length (take i xs) ≡ i = length-take-le i xs (omega (arith, lt)) in
    let more : take (i + 1) xs ≡ take i xs ++ l ∷ [] = take_more xs i l lt ∙ ap (λ (d : Link). take i xs ++ d ∷ []) (sym is) in
    let put : insert (take i xs) at l ≡ take i xs ++ l ∷ [] = ap (λ n. insert (take i xs) n l) (here ∙ sym len) ∙ insert_end (take i xs) l in
    subst AreLinks (put ∙ sym more) (inserted (take i xs) s e w (map_of (take i xs)) refl l.lo l.hi at l.rel lower (bound, position) (λ full. omega (arith, full, len, lt, few)))

-- where all links rise, each stands behind those before it
module _ (xs : List Link) (i at : ℕ) (l : Link) (s : List Link) (lt : i < length xs) (is : l ≡ get_or xs i l) (e : s ≡ take i xs) (w : AreLinks (take i xs)) (all : AreLinks xs) where
  len : length (take i xs) ≡ i
  len = length-take-le i xs (omega (arith, lt))

  below : at < i → pair_cmp (key (get_or (take i xs) at l)) (l.lo, l.hi) ≡ Less
  below less =
      let same : get_or (take i xs) at l ≡ get_or xs at l = get_or-take i xs at l less in
      ap (λ (d : Link). pair_cmp (key d) (l.lo, l.hi)) same ∙ (ap (λ (d : Link). pair_cmp (key (get_or xs at l)) (key d)) is ∙ rising.earlier_below pair_cmp key rel_of xs at i l all.rising less lt)

  pub not_found : Found (take i xs) s e w (map_of (take i xs)) refl l.lo l.hi at → ⊥
  not_found h =
      let p = place (take i xs) s e w (map_of (take i xs)) refl l.lo l.hi at h in
      let x : Less ≡ Equal = sym (below (omega (arith, p.inside, len))) ∙ p.here l in
      cc

  pub at_the_end : Missed (take i xs) s e w (map_of (take i xs)) refl l.lo l.hi at → at ≡ i
  at_the_end h =
      let g = gap (take i xs) s e w (map_of (take i xs)) refl l.lo l.hi at h in
      elim (cases_lt at i) [
        | inl less ↦ (let x : Less ≡ Greater = sym (below less) ∙ g.above at l (omega arith) (omega (arith, less, len)) in cc)
        | inr not_less ↦ omega (arith, not_less, g.inside, len)
      ]
