-- Rising lists of keys as sets, and the keys of a map as a list.
use Rattle.std.proofs.Common.{◌≡◌, ◌≢◌, ◌⊎◌, inl, inr, ℕ, zero, suc, ◌<◌, Bool, true, false, cond, ◌||◌, IsTrue, T, List, [], ◌∷◌, map, length, ◌≤◌, refl, sym, ap, subst, ◌∙◌, arith, Result, Ok, Err, IsOk, OnOk, Option, Some, None, IfSome, MatchOption, slice_get, get_or}
use Rattle.std.specs.Option.{option_copied}
use Rattle.std.specs.Borrow.{Bor}
use Rattle.std.proofs.lemmas.Bool.{true≢false, cases_lt}
use Rattle.std.proofs.lemmas.Option.{none-some, same_Some, slice_get-get_or, slice_get_past, slice_get_within}
use Rattle.std.proofs.lemmas.Map.Lookups.{CmpEqualImpliesEq}
use Rattle.std.specs.List.{insert, list_any, HoldsAt}
use Rattle.std.specs.List.Sorted.{IsSearchInRange, IsBinarySearchResult}
use Rattle.std.specs.declared.cmp.Ordering.{Ordering}
use Rattle.std.specs.declared.cmp.Ordering.TheVariants.{Less, Equal, Greater}
use Rattle.std.specs.Ordering.{eq_by_cmp, is_eq}
use Rattle.std.specs.Cmp.{IsTotalOrder, tied_itself}
use Rattle.std.specs.FinMap as fin
use Rattle.net_names.proofs.Marks.{keys_of_marks}
use Rattle.net_names.proofs.Rising as rising
pub use Rattle.net_names.proofs.Rising.{less as is_less, left, right}
use Rattle.stability_laws.specs.Plans.{ListsRising}
use Rattle.stability_laws.specs.PlanLists.{marks, set_of, IsRising}

is_equal : (r : Ordering) → is_eq r ≡ true → r ≡ Equal
is_equal Less e = cc
is_equal Equal e = refl
is_equal Greater e = cc

pub or_later : (a b : Bool) → b ≡ true → (a || b) ≡ true
or_later true b e = refl
or_later false b e = e

pub set_of_none : {K : Type 0} (R : K → K → Ordering) → set_of R [] ≡ fin.empty
set_of_none R = fin.empty_of_len _ (fin.len-entries _ ∙ ap length (fin.entries-from_sorted R [] tt))

pub keys_set_of : {K : Type 0} (R : K → K → Ordering) (xs : List K) → IsRising R xs → fin.keys (set_of R xs) ≡ xs
keys_set_of {K} R xs h = ap (map (λ (e : K × Unit {0}). e.0)) (fin.entries-from_sorted R (marks xs) h) ∙ keys_of_marks xs

-- what a look-up by place lends is what stands there
pub copied_at : {X : Type 0} (xs : List X) (i : ℕ) (r : Option (Bor X)) → IfSome r (λ x. x.now ≡ get_or xs i x.now) → MatchOption r (length xs ≤ i) (λ x. (i < length xs) × HoldsAt (λ y. x.now ≡ y) xs i) → option_copied r ≡ slice_get xs i
copied_at xs i None is at = sym (slice_get_past xs i at)
copied_at xs i (Some x) is at = sym (slice_get-get_or xs i x.now at.0 ∙ ap (λ y. Some y) (sym is))

-- the key is among the keys, in the words of an order that is the same
pub put_as : {K E : Type 0} (cmp own : K → K → Ordering) → own ≡ cmp → (old before new : List K) (k : K) (r : Result (Unit {0}) E) → before ≡ old
    → IsOk r → OnOk r (set_of own new ≡ fin.insert (set_of own before) k tt) → OnOk r (IsRising own new) → IsRising cmp new × (set_of cmp new ≡ fin.insert (set_of cmp old) k tt)
put_as {K} cmp own e old before new k (Ok x) kept ok put rises =
    let P : (K → K → Ordering) → List K → Type 0 = λ c ks. IsRising c new × (set_of c new ≡ fin.insert (set_of c ks) k tt) in
    subst (P cmp) kept (subst (λ (c : K → K → Ordering). P c before) e (rises, put))
put_as cmp own e old before new k (Err x) kept ok put rises = absurd (true≢false (sym ok))

-- a list of what is meant is one of what is meant in other words
pub listed_as : {K : Type 0} (cmp : K → K → Ordering) (P Q : K → Type 0) (xs : List K) → ((k : K) → P k → Q k) → ((k : K) → Q k → P k) → ListsRising cmp P xs → ListsRising cmp Q xs
listed_as cmp P Q xs there back l = record { whole = λ k q. l.whole k (back k q); only = λ place k is. there k (l.only place k is); rises = l.rises }

-- who has seen each place up to the first that is past the end has seen all that is meant; for callers
pub seen_before_end : {K : Type 0} (cmp : K → K → Ordering) (P : K → Type 0) (xs : List K) → ListsRising cmp P xs → (end : ℕ) → slice_get xs end ≡ None → (k : K) → P k → (place : ℕ) × (place < end) × (slice_get xs place ≡ Some k)
seen_before_end cmp P xs l end past k meant =
    let at = l.whole k meant in
    let within : at.0 < length xs = slice_get_within xs at.0 k at.1 in
    (at.0, by (cases_lt end (length xs)) within, at.1)
  where
    by : {n : ℕ} → (end < length xs) ⊎ (length xs ≤ end) → n < length xs → n < end
    by (inl lt) within = absurd (none-some _ (sym past ∙ slice_get-get_or xs end k lt))
    by (inr le) within = omega (arith, le, within)

-- nothing stands at two places; for callers
pub apart_later : {K : Type 0} (cmp : K → K → Ordering) → IsTotalOrder cmp → (P : K → Type 0) (xs : List K) → ListsRising cmp P xs → (i j : ℕ) (x y : K) → i < j → slice_get xs i ≡ Some x → slice_get xs j ≡ Some y → x ≢ y
apart_later cmp o P xs l i j x y lt e f same = not_less (cmp x x) (tied_itself o x) (subst (λ z. cmp x z ≡ Less) (sym same) (l.rises i j x y lt e f))
  where
    not_less : (r : Ordering) → r ≡ Equal → r ≡ Less → ⊥
    not_less r p q = absurd cc

module _ {K : Type 0} {R : K → K → Ordering} (o : IsTotalOrder R) (exact : CmpEqualImpliesEq R) where
  pub eq_is : (q k : K) → eq_by_cmp R q k ≡ true → q ≡ k
  eq_is q k e = exact q k (is_equal (R q k) e)

  pub eq_same : (q k : K) → q ≡ k → eq_by_cmp R q k ≡ true
  eq_same q k e = subst (λ (x : K). eq_by_cmp R q x ≡ true) e (ap is_eq (tied_itself o q))

  -- putting in what is there changes nothing
  pub insert_there : (s : fin.FinMap R (Unit {0})) (k : K) → fin.get s k ≡ Some tt → fin.insert s k tt ≡ s
  insert_there s k h = fin.same_map o exact _ _ (λ q. fin.get-insert o s k tt q ∙ by q (eq_by_cmp R q k) refl)
    where
      by : (q : K) (b : Bool) → eq_by_cmp R q k ≡ b → cond b (Some tt) (fin.get s q) ≡ fin.get s q
      by q true e = sym (ap (fin.get s) (eq_is q k e) ∙ h)
      by q false e = refl

  abbrev key : K → K
  key k = k

  abbrev mark : K → Unit {0}
  mark k = tt

  -- a search for the key ended with it, or without it
  module _ (xs s : List K) (e : s ≡ xs) (h : IsRising R xs) (k : K) (at : ℕ) where
    pub kept_there : IsSearchInRange (Ok at) (length s) → IsBinarySearchResult (λ y. R y k) s (Ok at) → set_of R xs ≡ fin.insert (set_of R xs) k tt
    kept_there a b =
        let P : List K → Type 0 = λ t. IsSearchInRange (Ok at) (length t) × IsBinarySearchResult (λ y. R y k) t (Ok at) in
        let p = subst P e (a, b) in
        sym (insert_there (set_of R xs) k (rising.get_place R key mark o exact xs k at k h (rising.place_by R key mark o exact xs k at p.0 p.1)))

    pub put_new : IsSearchInRange (Err at) (length s) → IsBinarySearchResult (λ y. R y k) s (Err at) → IsRising R (insert xs at k) × (set_of R (insert xs at k) ≡ fin.insert (set_of R xs) k tt)
    put_new a b =
        let P : List K → Type 0 = λ t. IsSearchInRange (Err at) (length t) × IsBinarySearchResult (λ y. R y k) t (Err at) in
        let p = subst P e (a, b) in
        let g = rising.gap_by R key mark o exact xs k at h p.0 p.1 in
        (rising.rising_insert R key mark o exact xs k at h g, rising.map_insert R key mark o exact xs k at h g)

  module _ {X : Type 0} where
    abbrev keys_of : List (K × X) → List K
    keys_of = map (λ e. e.0)

    place_of_key : (es : List (K × X)) (k : K) → list_any (eq_by_cmp R k) (keys_of es) ≡ true → (place : ℕ) × (slice_get (keys_of es) place ≡ Some k)
    place_of_key [] k h = absurd (true≢false (sym h))
    place_of_key (e ∷ es) k h = by (eq_by_cmp R k e.0) refl (place_of_key es k) h
      where
        by : (b : Bool) → eq_by_cmp R k e.0 ≡ b → (list_any (eq_by_cmp R k) (keys_of es) ≡ true → (place : ℕ) × (slice_get (keys_of es) place ≡ Some k))
            → (b || list_any (eq_by_cmp R k) (keys_of es)) ≡ true → (place : ℕ) × (slice_get (e.0 ∷ keys_of es) place ≡ Some k)
        by true t rest h = (zero, ap (λ (x : K). Some x) (sym (eq_is k e.0 t)))
        by false t rest h = let r = rest h in (suc r.0, r.1)

    key_at_place : (es : List (K × X)) (place : ℕ) (k : K) → slice_get (keys_of es) place ≡ Some k → list_any (eq_by_cmp R k) (keys_of es) ≡ true
    key_at_place [] place k h = absurd (none-some k h)
    key_at_place (e ∷ es) zero k h = ap (λ b. b || list_any (eq_by_cmp R k) (keys_of es)) (eq_same k e.0 (sym (same_Some e.0 k h)))
    key_at_place (e ∷ es) (suc place) k h = or_later (eq_by_cmp R k e.0) _ (key_at_place es place k h)

    above_at : (x : K) (es : List (K × X)) (j : ℕ) (y : K) → T (fin.Entries.below_all R x es) → slice_get (keys_of es) j ≡ Some y → R x y ≡ Less
    above_at x [] j y h e = absurd (none-some y e)
    above_at x (z ∷ es) zero y h e = subst (λ (w : K). R x w ≡ Less) (same_Some z.0 y e) (is_less (R x z.0) (left _ _ h))
    above_at x (z ∷ es) (suc j) y h e = above_at x es j y (right _ _ h) e

    rises_at : (es : List (K × X)) (i j : ℕ) (x y : K) → T (fin.is_sorted R es) → i < j → slice_get (keys_of es) i ≡ Some x → slice_get (keys_of es) j ≡ Some y → R x y ≡ Less
    rises_at [] i j x y h lt e f = absurd (none-some x e)
    rises_at (z ∷ es) i zero x y h lt e f = absurd (omega (arith, lt))
    rises_at (z ∷ es) zero (suc j) x y h lt e f = subst (λ (w : K). R w y ≡ Less) (same_Some z.0 x e) (above_at z.0 es j y (left _ _ h) f)
    rises_at (z ∷ es) (suc i) (suc j) x y h lt e f = rises_at es i j x y (right _ _ h) (omega (arith, lt)) e f

    -- the keys of a map, each once and in their order
    pub keys_listed : (m : fin.FinMap R X) → ListsRising R (λ k. IsTrue (fin.contains_key m k)) (fin.keys m)
    keys_listed m = record {
      whole = λ k has. place_of_key (fin.entries m) k (sym (fin.contains_key-keys m k) ∙ has);
      only = λ place k is. fin.contains_key-keys m k ∙ key_at_place (fin.entries m) place k is;
      rises = λ i j x y lt e f. rises_at (fin.entries m) i j x y (fin.entries_sorted m) lt e f;
    }

  -- a key is below each later one
  pub below_later : (xs : List K) → IsRising R xs → (i j : ℕ) (d : K) → i < j → j < length xs → R (get_or xs i d) (get_or xs j d) ≡ Less
  below_later xs h i j d lt within =
      let P : (n : ℕ) → List K → Type 0 = λ n ks. slice_get ks n ≡ Some (get_or xs n d) in
      let at : (n : ℕ) → n < length xs → slice_get (map (λ (e : K × Unit {0}). e.0) (marks xs)) n ≡ Some (get_or xs n d) = λ n n_within. subst (P n) (sym (keys_of_marks xs)) (slice_get-get_or xs n d n_within) in
      rises_at (marks xs) i j (get_or xs i d) (get_or xs j d) h lt (at i (omega (arith, lt, within))) (at j within)
