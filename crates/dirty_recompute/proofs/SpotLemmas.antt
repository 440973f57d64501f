-- What a mark at a spot changes.
use Rattle.std.proofs.Common.{◌≡◌, ◌≢◌, ◌+◌, ◌-◌, inl, inr, ℕ, zero, suc, ◌<◌, ◌≤◌, Bool, true, false, ◌&&◌, ◌||◌, cond, true≢false, refl, sym, ◌∙◌, ap, subst, arith, List, [], ◌∷◌, Some, slice_get}
use Rattle.std.proofs.lemmas.Bool.{cases_eq, cases_Bool, and_parts}
use Rattle.std.proofs.lemmas.List.Folds.{list_any_at}
use Rattle.std.proofs.lemmas.Option.{slice_get_within, get_or_from_slice_get, same_Some}
use Rattle.std.specs.List.{list_any}
use Rattle.std.specs.BTreeMap.{is_at}
use Rattle.dirty_recompute.specs.declared.spot.Spot.{Spot}
use Rattle.dirty_recompute.specs.Spots.{key_cmp, waits_at, spots_have, AreApart, AreRising, AreWithin, AreRanked, NoneWaits, IsMarked, IsNextPlace, IsNextTaken, place_after}
use Rattle.dirty_recompute.specs.Fews.{HasTurned, IsNextOf}
use Rattle.dirty_recompute.specs.declared.way.Way.{Way}
use Rattle.dirty_recompute.specs.declared.way.Way.TheVariants.{Up, Down}
use Rattle.dirty_recompute.specs.Ways.{IsNoLater}
use Rattle.dirty_recompute.proofs.FewLemmas.{key_is, key_at}

pub any_in : {X : Type 0} (p : X → Bool) (xs : List X) (j : ℕ) (x : X) → slice_get xs j ≡ Some x → p x ≡ true → list_any p xs ≡ true
any_in p xs j x got is = list_any_at p xs j x (slice_get_within xs j x got) (ap p (get_or_from_slice_get xs j x x got) ∙ is)

pub any_out : {X : Type 0} (p : X → Bool) (xs : List X) → list_any p xs ≡ true → (j : ℕ) × (x : X) × (slice_get xs j ≡ Some x) × (p x ≡ true)
any_out p [] e = absurd (true≢false (sym e))
any_out {X} p (x ∷ xs) e = by (p x) refl e (any_out p xs)
  where
    by : (t : Bool) → p x ≡ t → (t || list_any p xs) ≡ true → (list_any p xs ≡ true → (j : ℕ) × (y : X) × (slice_get xs j ≡ Some y) × (p y ≡ true)) → (j : ℕ) × (y : X) × (slice_get (x ∷ xs) j ≡ Some y) × (p y ≡ true)
    by true is e ih = (zero, x, refl, is)
    by false is e ih = let (j, y, got, at) = ih e in (suc j, y, got, at)

and_true : (x y : Bool) → x ≡ true → y ≡ true → (x && y) ≡ true
and_true true y a b = b
and_true false y a b = absurd (true≢false (sym a))

-- the pair of an AS that waits
pub pair_of : (rank : ℕ → ℕ) (q : ℕ × ℕ) (t : Spot) → waits_at rank q t ≡ true → q ≡ (rank t.asn, t.asn)
pair_of rank q t w = key_is q (rank t.asn, t.asn) (and_parts t.waits _ w).1

pub waits_of : (rank : ℕ → ℕ) (q : ℕ × ℕ) (t : Spot) → waits_at rank q t ≡ true → t.waits ≡ true
waits_of rank q t w = (and_parts t.waits _ w).0

pub has_own : (rank : ℕ → ℕ) (spots : List Spot) (j : ℕ) (t : Spot) → slice_get spots j ≡ Some t → t.waits ≡ true → spots_have rank spots (rank t.asn, t.asn) ≡ true
has_own rank spots j t got w = any_in (waits_at rank (rank t.asn, t.asn)) spots j t got (and_true t.waits _ w (key_at (rank t.asn, t.asn)))

-- where nobody waits there is no pair
pub none_has : (rank : ℕ → ℕ) (spots : List Spot) → NoneWaits spots → (q : ℕ × ℕ) → spots_have rank spots q ≡ false
none_has rank spots none q = by (spots_have rank spots q) refl
  where
    by : (x : Bool) → spots_have rank spots q ≡ x → x ≡ false
    by false e = refl
    by true e = let (j, t, got, w) = any_out (waits_at rank q) spots e in absurd (true≢false (sym (waits_of rank q t w) ∙ none j t got))

module _ (before after : List Spot) (i : ℕ) (b : Bool) (s : Spot) (at : slice_get before i ≡ Some s) (m : IsMarked before after i b) where
  abbrev now : Spot
  now = record s { waits = b }

  here : slice_get after i ≡ Some now
  here = m.this s at

  back : (j : ℕ) (t : Spot) → slice_get after j ≡ Some t → (u : Spot) × (slice_get before j ≡ Some u) × (u.asn ≡ t.asn) × (u.rank ≡ t.rank)
  back j t got = elim (cases_eq j i) [
    | inl e ↦ let is : now ≡ t = same_Some now t (sym here ∙ ap (slice_get after) (sym e) ∙ got) in (s, ap (slice_get before) e ∙ at, ap (λ (x : Spot). x.asn) is, ap (λ (x : Spot). x.rank) is)
    | inr ne ↦ (t, sym (m.others j ne) ∙ got, refl, refl)
  ]

  pub marked_apart : AreApart before → AreApart after
  marked_apart was = λ j k t u gt gu same. let (x, gx, ax, rx) = back j t gt in let (y, gy, ay, ry) = back k u gu in was j k x y gx gy (ax ∙ same ∙ sym ay)

  pub marked_rising : AreRising before → AreRising after
  marked_rising was = λ j k t u le gt gu. let (x, gx, ax, rx) = back j t gt in let (y, gy, ay, ry) = back k u gu in let old : x.rank ≤ y.rank = was j k x y le gx gy in omega (arith, old, rx, ry)

  pub marked_ranked : (rank : ℕ → ℕ) → AreRanked rank before → AreRanked rank after
  marked_ranked rank was = λ j t gt. let (x, gx, ax, rx) = back j t gt in sym rx ∙ was j x gx ∙ ap rank ax

  pub marked_within : (low high low' high' : ℕ) → AreWithin low high before → low' ≤ low → low' ≤ i → high ≤ high' → i < high' → AreWithin low' high' after
  marked_within low high low' high' was le at_low ge at_high = λ j t gt w. elim (cases_eq j i) [
    | inl e ↦ ((omega (arith, e, at_low)), (omega (arith, e, at_high)))
    | inr ne ↦ let old = was j t (sym (m.others j ne) ∙ gt) w in ((omega (arith, old.0, le)), (omega (arith, old.1, ge)))
  ]

  module _ (rank : ℕ → ℕ) (apart : AreApart before) where
    abbrev key : ℕ × ℕ
    key = (rank s.asn, s.asn)

    at_key : spots_have rank after key ≡ b
    at_key = by (spots_have rank after key) b refl refl
      where
        by : (x y : Bool) → spots_have rank after key ≡ x → b ≡ y → x ≡ y
        by true true e f = refl
        by false false e f = refl
        by false true e f = absurd (true≢false (sym (has_own rank after i now here f) ∙ e))
        by true false e f =
            let (j, t, got, w) = any_out (waits_at rank key) after e in
            let is : s.asn ≡ t.asn = ap (λ (p : ℕ × ℕ). p.1) (pair_of rank key t w) in
            let place : j ≡ i = marked_apart apart j i t now got here (sym is) in
            let same : t ≡ now = same_Some t now (sym got ∙ ap (slice_get after) place ∙ here) in
            absurd (true≢false (sym (waits_of rank key t w) ∙ ap (λ (x : Spot). x.waits) same ∙ f))

    -- at another pair nothing changes
    elsewhere : (q : ℕ × ℕ) → is_at (key_cmp key) q ≡ false → spots_have rank after q ≡ spots_have rank before q
    elsewhere q e = by (spots_have rank after q) (spots_have rank before q) refl refl
      where
        not_here : (t : Spot) → t.asn ≡ s.asn → q ≡ (rank t.asn, t.asn) → true ≡ false
        not_here t same is = sym (subst (λ p. is_at (key_cmp key) p ≡ true) (sym (is ∙ ap (λ a. (rank a, a)) same)) (key_at key)) ∙ e

        by : (x y : Bool) → spots_have rank after q ≡ x → spots_have rank before q ≡ y → x ≡ y
        by true true a c = refl
        by false false a c = refl
        by true false a c = let (j, t, got, w) = any_out (waits_at rank q) after a in elim (cases_eq j i) [
          | inl is ↦ absurd (true≢false (not_here t (ap (λ (x : Spot). x.asn) (same_Some t now (sym got ∙ ap (slice_get after) is ∙ here))) (pair_of rank q t w)))
          | inr ne ↦ absurd (true≢false (sym (any_in (waits_at rank q) before j t (sym (m.others j ne) ∙ got) w) ∙ c))
        ]
        by false true a c = let (j, t, got, w) = any_out (waits_at rank q) before c in elim (cases_eq j i) [
          | inl is ↦ absurd (true≢false (not_here t (ap (λ (x : Spot). x.asn) (same_Some t s (sym got ∙ ap (slice_get before) is ∙ at))) (pair_of rank q t w)))
          | inr ne ↦ absurd (true≢false (sym (any_in (waits_at rank q) after j t (m.others j ne ∙ got) w) ∙ a))
        ]

    pub marked_turned : HasTurned (spots_have rank before) (spots_have rank after) key b
    marked_turned q = elim (cases_Bool (is_at (key_cmp key) q)) [
      | inl e ↦ subst (λ p. spots_have rank after p ≡ b) (key_is key q e) at_key ∙ sym (ap (λ x. cond x b (spots_have rank before q)) e)
      | inr e ↦ elsewhere q e ∙ sym (ap (λ x. cond x b (spots_have rank before q)) e)
    ]

-- a spot that comes no later has a rank that comes no later
no_later_rank : (way : Way) (spots : List Spot) → AreRising spots → (i j : ℕ) (s t : Spot) → IsNoLater way i j → slice_get spots i ≡ Some s → slice_get spots j ≡ Some t → IsNoLater way s.rank t.rank
no_later_rank Up spots rising i j s t le at_i at_j = rising i j s t le at_i at_j
no_later_rank Down spots rising i j s t le at_i at_j = rising j i t s le at_j at_i

pub next_spot : (way : Way) (rank : ℕ → ℕ) (before after : List Spot) (s : Spot) → AreApart before → AreRising before → AreRanked rank before → IsNextTaken way before after s → IsNextOf way rank (spots_have rank before) (spots_have rank after) s.asn
next_spot way rank before after s apart rising ranked x =
    let ((u, got, w), first) = x.next in
    let same : u ≡ s = same_Some u s (sym got ∙ x.at) in
    record {
      was = has_own rank before x.place s x.at (sym (ap (λ (t : Spot). t.waits) same) ∙ w);
      turned = marked_turned before after x.place false s x.at x.marked rank apart;
      next = λ b t. (let (j, v, gv, wv) = any_out (waits_at rank (rank b, b)) before t in
          let le : IsNoLater way s.rank v.rank = no_later_rank way before rising x.place j s v (first j v gv (waits_of rank (rank b, b) v wv)) x.at gv in
          let is : rank b ≡ rank v.asn = ap (λ (p : ℕ × ℕ). p.0) (pair_of rank (rank b, b) v wv) in
          subst (λ n. IsNoLater way n (rank b)) (ranked x.place s x.at) (subst (IsNoLater way s.rank) (ranked j v gv ∙ sym is) le));
    }

-- who waits comes at so many places on this way or later
abbrev pub AreAhead : Way → ℕ → ℕ → ℕ → List Spot → Type 0
AreAhead Up low high step spots = (j : ℕ) (t : Spot) → slice_get spots j ≡ Some t → t.waits ≡ true → (low + step ≤ j) × (j < high)
AreAhead Down low high step spots = (j : ℕ) (t : Spot) → slice_get spots j ≡ Some t → t.waits ≡ true → (low ≤ j) × (j + step < high)

pub ahead_at_first : (way : Way) (low high : ℕ) (spots : List Spot) → AreWithin low high spots → AreAhead way low high 0 spots
ahead_at_first Up low high spots within = λ j t got w. let is = within j t got w in (omega (arith, is.0), is.1)
ahead_at_first Down low high spots within = λ j t got w. let is = within j t got w in (is.0, omega (arith, is.1))

-- they come at that place or later
pub ahead_of_place : (way : Way) (low high step : ℕ) (spots : List Spot) → AreAhead way low high step spots → (j : ℕ) (t : Spot) → slice_get spots j ≡ Some t → t.waits ≡ true → IsNoLater way (place_after way low high step) j
ahead_of_place Up low high step spots ahead j t got w = (ahead j t got w).0
ahead_of_place Down low high step spots ahead j t got w = let is = ahead j t got w in omega (arith, is.1)

-- where nobody waits at a place, they come at the next one or later
pub ahead_next : (way : Way) (low high step : ℕ) (spots : List Spot) → step < high - low → ((t : Spot) → slice_get spots (place_after way low high step) ≡ Some t → t.waits ≡ false) → AreAhead way low high step spots → AreAhead way low high (step + 1) spots
ahead_next Up low high step spots some none ahead = λ j t got w.
    let is = ahead j t got w in
    let apart : j ≢ low + step = λ e. true≢false (sym w ∙ none t (ap (slice_get spots) (sym e) ∙ got)) in
    (omega (arith, is.0, apart), is.1)
ahead_next Down low high step spots some none ahead = λ j t got w.
    let is = ahead j t got w in
    let apart : j ≢ high - (step + 1) = λ e. true≢false (sym w ∙ none t (ap (slice_get spots) (sym e) ∙ got)) in
    (is.0, omega (arith, is.1, apart, some))

-- and where all places are passed nobody waits
pub none_ahead : (way : Way) (low high step : ℕ) (spots : List Spot) → high - low ≤ step → AreAhead way low high step spots → NoneWaits spots
none_ahead way low high step spots past ahead i s got = by s.waits refl
  where
    no : (x : Way) → AreAhead x low high step spots → s.waits ≡ true → ⊥
    no Up all w = let is = all i s got w in omega (arith, is.0, is.1, past)
    no Down all w = let is = all i s got w in omega (arith, is.0, is.1, past)

    by : (x : Bool) → s.waits ≡ x → x ≡ false
    by false e = refl
    by true e = absurd (no way ahead e)

-- with nobody before the next place, all who wait stand within the new bounds
pub next_within : (low high at : ℕ) (spots : List Spot) → AreWithin low high spots → (IsNextPlace Up spots at → AreWithin at high spots) × (IsNextPlace Down spots at → AreWithin low (at + 1) spots)
next_within low high at spots within = (up, down)
  where
    up : IsNextPlace Up spots at → AreWithin at high spots
    up next = λ j t got w. (next.1 j t got w, (within j t got w).1)

    down : IsNextPlace Down spots at → AreWithin low (at + 1) spots
    down next = λ j t got w. let le : j ≤ at = next.1 j t got w in ((within j t got w).0, omega (arith, le))
