-- From a set of ASes to spots, and back, one at a time.
use Rattle.std.proofs.Common.{◌≡◌, ◌≢◌, ◌⊎◌, inl, inr, ℕ, ◌+◌, ◌<◌, ◌≤◌, Bool, true, false, ◌&&◌, ◌||◌, cond, true≢false, refl, sym, ◌∙◌, ap, subst, arith, List, [], ◌∷◌, ◌++◌, length, get_or, set, Some, slice_get, nat_eq}
use Rattle.std.proofs.lemmas.Bool.{cases_lt, cases_order, eq-eqb}
use Rattle.std.proofs.lemmas.List.{get_or-set_same, get_or-set_other, get_or_append_left, length-append, length-set}
use Rattle.std.proofs.Math.Seq.{get_or-append_seam}
use Rattle.std.proofs.lemmas.Map.Keys.{apart_from_distinct}
use Rattle.std.proofs.lemmas.List.Folds.{list_any_more}
use Rattle.std.proofs.lemmas.Option.{slice_get_within, slice_get_past, slice_get-get_or, get_or_from_slice_get}
use Rattle.std.proofs.Math.ListN.{take}
use Rattle.std.specs.List.{list_any, IsDistinct}
use Rattle.std.specs.BTreeMap.{is_at}
use Rattle.dirty_recompute.specs.declared.few.Few.{Few}
use Rattle.dirty_recompute.specs.declared.spot.Spot.{Spot}
use Rattle.dirty_recompute.specs.Spots.{key_cmp, waits_at, spots_have, AreApart, AreRanked, AreWithin, NoneWaits, IsMarked, AreSpotsOf}
use Rattle.dirty_recompute.specs.Fews.{few_has, HasTurned}
use Rattle.dirty_recompute.proofs.FewLemmas.{key_is, key_at}
use Rattle.dirty_recompute.proofs.SpotLemmas.{marked_turned, marked_ranked}

pub set_get : {X : Type 0} (xs : List X) (i : ℕ) (x y : X) → slice_get xs i ≡ Some x → slice_get (set xs i y) i ≡ Some y
set_get xs i x y e =
    let less : i < length xs = slice_get_within xs i x e in
    slice_get-get_or (set xs i y) i y (subst (λ n. i < n) (sym (length-set xs i y)) less) ∙ ap Some (get_or-set_same xs i y y less)

pub set_keeps : {X : Type 0} (xs : List X) (i j : ℕ) (y : X) → j ≢ i → slice_get (set xs i y) j ≡ slice_get xs j
set_keeps xs i j y ne = elim (cases_lt j (length xs)) [
  | inl less ↦ slice_get-get_or (set xs i y) j y (subst (λ n. j < n) (sym (length-set xs i y)) less) ∙ ap Some (get_or-set_other xs i j y y ne) ∙ sym (slice_get-get_or xs j y less)
  | inr past ↦ slice_get_past (set xs i y) j (subst (λ n. n ≤ j) (sym (length-set xs i y)) past) ∙ sym (slice_get_past xs j past)
]

at_sym : (k q : ℕ × ℕ) → is_at (key_cmp k) q ≡ is_at (key_cmp q) k
at_sym k q = by (is_at (key_cmp k) q) (is_at (key_cmp q) k) refl refl
  where
    by : (x y : Bool) → is_at (key_cmp k) q ≡ x → is_at (key_cmp q) k ≡ y → x ≡ y
    by true true e f = refl
    by false false e f = refl
    by true false e f = absurd (true≢false (sym (subst (λ p. is_at (key_cmp p) k ≡ true) (key_is k q e) (key_at k)) ∙ f))
    by false true e f = absurd (true≢false (sym (subst (λ p. is_at (key_cmp p) q ≡ true) (key_is q k f) (key_at q)) ∙ e))

-- one more passes the test
any_next : {X : Type 0} (p : X → Bool) (xs : List X) (i : ℕ) (x : X) → slice_get xs i ≡ Some x → list_any p (take (i + 1) xs) ≡ (list_any p (take i xs) || p x)
any_next p xs i x at = list_any_more p xs i x (slice_get_within xs i x at) ∙ ap (λ y. list_any p (take i xs) || p y) (get_or_from_slice_get xs i x x at)

or_in : (c a y : Bool) → cond c true (a || y) ≡ ((a || c) || y)
or_in true true y = refl
or_in true false y = refl
or_in false true y = refl
or_in false false y = refl

or_last : (a c : Bool) → cond c true a ≡ (a || c)
or_last true true = refl
or_last true false = refl
or_last false true = refl
or_last false false = refl

or_none : (a y : Bool) → (a || y) ≡ ((a || false) || y)
or_none true y = refl
or_none false y = refl

-- the set has the pairs of the first spots too
abbrev pub HasTaken : (ℕ → ℕ) → Few → Few → List Spot → ℕ → Type 0
HasTaken rank first few spots i = (k : ℕ × ℕ) → few_has rank few k ≡ (list_any (waits_at rank k) (take i spots) || few_has rank first k)

module _ (rank : ℕ → ℕ) (first few : Few) (spots : List Spot) (i : ℕ) (s : Spot) (at : slice_get spots i ≡ Some s) (so_far : HasTaken rank first few spots i) where
  pub taken_next : (next : Few) → s.waits ≡ true → HasTurned (few_has rank few) (few_has rank next) (rank s.asn, s.asn) true → HasTaken rank first next spots (i + 1)
  taken_next next w up k =
      let p = waits_at rank k in
      let before = list_any p (take i spots) in
      up k
      ∙ ap (cond (is_at (key_cmp (rank s.asn, s.asn)) k) true) (so_far k)
      ∙ or_in (is_at (key_cmp (rank s.asn, s.asn)) k) before (few_has rank first k)
      ∙ ap (λ x. (before || x) || few_has rank first k) (at_sym (rank s.asn, s.asn) k ∙ sym (ap (λ x. x && is_at (key_cmp k) (rank s.asn, s.asn)) w))
      ∙ ap (λ x. x || few_has rank first k) (sym (any_next p spots i s at))

  pub taken_past : s.waits ≡ false → HasTaken rank first few spots (i + 1)
  taken_past w k =
      let p = waits_at rank k in
      let before = list_any p (take i spots) in
      so_far k
      ∙ or_none before (few_has rank first k)
      ∙ ap (λ x. (before || x) || few_has rank first k) (sym (ap (λ x. x && is_at (key_cmp k) (rank s.asn, s.asn)) w))
      ∙ ap (λ x. x || few_has rank first k) (sym (any_next p spots i s at))

-- the spots have the first pairs
pub record AreFilled (first spots : List Spot) (keys : List (ℕ × ℕ)) (i : ℕ) : Type 0 where
  pub ranked : (rank : ℕ → ℕ) → AreRanked rank first → AreRanked rank spots
  pub all : (rank : ℕ → ℕ) → AreRanked rank first → (k : ℕ × ℕ) → spots_have rank spots k ≡ list_any (is_at (key_cmp k)) (take i keys)

pub filled_next : (first spots next : List Spot) (keys : List (ℕ × ℕ)) (i : ℕ) (key : ℕ × ℕ) (place : ℕ) (s : Spot) → AreApart spots → slice_get keys i ≡ Some key → slice_get spots place ≡ Some s → s.asn ≡ key.1 → s.rank ≡ key.0 →
    IsMarked spots next place true → AreFilled first spots keys i → AreFilled first next keys (i + 1)
filled_next first spots next keys i key place s apart at got asn is m so_far = record {
  ranked = λ rank was. marked_ranked spots next place true s got m rank (so_far.ranked rank was);
  all = λ rank was k. (let mine : ℕ × ℕ = (rank s.asn, s.asn) in
      let same : mine ≡ key = ap (λ x. (x, s.asn)) (sym (so_far.ranked rank was place s got) ∙ is) ∙ ap (λ x. (key.0, x)) asn in
      marked_turned spots next place true s got m rank apart k
      ∙ ap (cond (is_at (key_cmp mine) k) true) (so_far.all rank was k)
      ∙ or_last (list_any (is_at (key_cmp k)) (take i keys)) (is_at (key_cmp mine) k)
      ∙ ap (λ x. list_any (is_at (key_cmp k)) (take i keys) || x) (at_sym mine k ∙ ap (is_at (key_cmp k)) same)
      ∙ sym (any_next (is_at (key_cmp k)) keys i key at));
}

-- an element of a list with one more stands in the list, or is that one
pushed : (xs : List Spot) (s : Spot) (j : ℕ) (t : Spot) → slice_get (xs ++ s ∷ []) j ≡ Some t → (slice_get xs j ≡ Some t) ⊎ ((j ≡ length xs) × (t ≡ s))
pushed xs s j t got =
    let less : j < length (xs ++ s ∷ []) = slice_get_within (xs ++ s ∷ []) j t got in
    let long : length (xs ++ s ∷ []) ≡ length xs + 1 = length-append xs (s ∷ []) in
    let read : get_or (xs ++ s ∷ []) j t ≡ t = get_or_from_slice_get (xs ++ s ∷ []) j t t got in
    elim (cases_lt j (length xs)) [
      | inl within ↦ inl (slice_get-get_or xs j t within ∙ ap Some (sym (get_or_append_left xs (s ∷ []) t j within) ∙ read))
      | inr past ↦ let is : j ≡ length xs = omega (arith, less, long, past) in inr (is, sym read ∙ ap (λ n. get_or (xs ++ s ∷ []) n t) is ∙ get_or-append_seam xs s [] t)
    ]

-- these are spots of the first ASes, of no rank above the last
pub record AreSpotsSoFar (rank : ℕ → ℕ) (ases : List ℕ) (spots : List Spot) (i last : ℕ) : Type 0 where
  pub count : length spots ≡ i
  pub are : AreSpotsOf rank ases spots
  pub below : (j : ℕ) (s : Spot) → slice_get spots j ≡ Some s → s.rank ≤ last

pub spots_next : (rank : ℕ → ℕ) (ases : List ℕ) (spots : List Spot) (i last : ℕ) (s : Spot) → slice_get ases i ≡ Some s.asn → s.rank ≡ rank s.asn → s.waits ≡ false → last ≤ s.rank →
    AreSpotsSoFar rank ases spots i last → AreSpotsSoFar rank ases (spots ++ s ∷ []) (i + 1) s.rank
spots_next rank ases spots i last s at ranked idle le x = record {
  count = length-append spots (s ∷ []) ∙ ap (λ n. n + 1) x.count;
  are = record {
    each = λ j t got. elim (pushed spots s j t got) [ inl old ↦ x.are.each j t old | inr (is, same) ↦ ap (slice_get ases) (is ∙ x.count) ∙ at ∙ ap (λ (u : Spot). Some u.asn) (sym same) ];
    ranked = λ j t got. elim (pushed spots s j t got) [ inl old ↦ x.are.ranked j t old | inr (is, same) ↦ ap (λ (u : Spot). u.rank) same ∙ ranked ∙ ap (λ (u : Spot). rank u.asn) (sym same) ];
    rising = λ j k t u before gt gu. elim (pushed spots s k u gu) [
      | inl old ↦ elim (pushed spots s j t gt) [
        | inl older ↦ x.are.rising j k t u before older old
        | inr (is, same) ↦ let less : k < length spots = slice_get_within spots k u old in absurd (omega (arith, less, is, before))
      ]
      | inr (is, same) ↦ elim (pushed spots s j t gt) [
        | inl old ↦ let low : t.rank ≤ last = x.below j t old in omega (arith, low, le, ap (λ (v : Spot). v.rank) same)
        | inr (place, equal) ↦ omega (arith, ap (λ (v : Spot). v.rank) same, ap (λ (v : Spot). v.rank) equal)
      ]
    ];
    none = λ j t got. elim (pushed spots s j t got) [ inl old ↦ x.are.none j t old | inr (is, same) ↦ ap (λ (u : Spot). u.waits) same ∙ idle ];
  };
  below = λ j t got. elim (pushed spots s j t got) [ inl old ↦ (let low : t.rank ≤ last = x.below j t old in omega (arith, low, le)) | inr (is, same) ↦ omega (arith, ap (λ (v : Spot). v.rank) same) ];
}

pub spots_none : (rank : ℕ → ℕ) (ases : List ℕ) (last : ℕ) → AreSpotsSoFar rank ases [] 0 last
spots_none rank ases last =
    let no : (j : ℕ) (s : Spot) → slice_get [] j ≡ Some s → j < 0 = λ j s got. slice_get_within [] j s got in
    record {
      count = refl;
      are = record { each = λ j s got. absurd (omega (arith, no j s got)); ranked = λ j s got. absurd (omega (arith, no j s got)); rising = λ j k s t le gs gt. absurd (omega (arith, no j s gs)); none = λ j s got. absurd (omega (arith, no j s got)) };
      below = λ j s got. absurd (omega (arith, no j s got));
    }

pub spots_apart : (rank : ℕ → ℕ) (ases : List ℕ) (spots : List Spot) → IsDistinct nat_eq ases → AreSpotsOf rank ases spots → AreApart spots
spots_apart rank ases spots apart x = λ i j s t gs gt same.
    let at_i = x.each i s gs in let at_j = x.each j t gt in
    let read_i : get_or ases i 0 ≡ s.asn = get_or_from_slice_get ases i s.asn 0 at_i in
    let read_j : get_or ases j 0 ≡ t.asn = get_or_from_slice_get ases j t.asn 0 at_j in
    elim (cases_order i j) [
      | inl is ↦ is
      | inr (inl less) ↦ absurd (true≢false (sym (eq-eqb (get_or ases i 0) (get_or ases j 0) (read_i ∙ same ∙ sym read_j)) ∙ apart_from_distinct nat_eq ases i j 0 apart less (slice_get_within ases j t.asn at_j)))
      | inr (inr more) ↦ absurd (true≢false (sym (eq-eqb (get_or ases j 0) (get_or ases i 0) (read_j ∙ sym same ∙ sym read_i)) ∙ apart_from_distinct nat_eq ases j i 0 apart more (slice_get_within ases i s.asn at_i)))
    ]

pub spots_idle : (spots : List Spot) (low high : ℕ) → NoneWaits spots → AreWithin low high spots
spots_idle spots low high none = λ i s got w. absurd (true≢false (sym w ∙ none i s got))

-- the rank of a spot that was read
pub spot_read : (xs : List Spot) (i : ℕ) (s d : Spot) → slice_get xs i ≡ Some s → d ≡ get_or xs i d → {r : ℕ} → d.rank ≡ r → s.rank ≡ r
spot_read xs i s d at read e = sym (ap (λ (u : Spot). u.rank) (read ∙ get_or_from_slice_get xs i s d at)) ∙ e

-- a mark that is written in place
module _ (xs : List Spot) (i : ℕ) (d : Spot) (b : Bool) (read : d ≡ get_or xs i d) where
  pub mark_made : IsMarked xs (set xs i (record d { waits = b })) i b
  mark_made = record {
    this = λ s at. set_get xs i s (record d { waits = b }) at ∙ ap (λ (u : Spot). Some (record u { waits = b })) (read ∙ get_or_from_slice_get xs i s d at);
    others = λ j ne. set_keeps xs i j (record d { waits = b }) ne;
  }

  pub was_there : i < length xs → slice_get xs i ≡ Some d
  was_there less = slice_get-get_or xs i d less ∙ ap Some (sym read)
