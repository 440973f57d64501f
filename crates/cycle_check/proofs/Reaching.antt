-- What a search has reached.
use Rattle.std.proofs.Common.{◌≡◌, ◌≢◌, ◌⊎◌, inl, inr, ℕ, zero, suc, ◌+◌, ◌<◌, ◌≤◌, Bool, true, false, not, cond, nat_eq, nat_lt, Option, None, Some, is_some, unwrap_or, List, [], ◌∷◌, ◌++◌, length, get_or, refl, sym, ◌∙◌, ap, subst, arith}
use Rattle.std.proofs.lemmas.Bool.{cases_Bool, cases_eq, cases_lt, eqb-true, eq-eqb, ne_eqb, ltb-true, true≢false, false_from_ne_true}
use Rattle.std.proofs.lemmas.List.{length_push}
use Rattle.std.specs.List.{IsDistinct as AreApart, AllByRecursion, position, position_or_len}
use Rattle.std.specs.Map.{lookup, keys_of}
use Rattle.std.proofs.lemmas.Map.Keys.{IsDistinct-head, IsDistinct-tail}
use Rattle.indexmap.specs.IndexMap.{insert_entry}
use Rattle.net_names.specs.declared.routes.Rel.{Rel}
use Rattle.net_names.specs.declared.routes.Rel.TheVariants.{Customer}
use Rattle.net_names.specs.Numbers.{occurs, IsDistinct, last_or}
use Rattle.as_graph.specs.Hierarchy.{IsDescent}
use Rattle.cycle_check.specs.Searches.{reached_at, from_at, is_reached, gains, AreReached, GoesOn, IsSearch, IsWayTo, IsBack}
use Rattle.cycle_check.proofs.Descents.{occurs_push, distinct_push, descent_push, last_or_push}

-- ---- places

-- an AS that is reached has a place
pub place_of : (es : List (ℕ × ℕ)) (x : ℕ) → is_reached es x ≡ true → (i : ℕ) × (i < length es) × (reached_at es i ≡ x)
place_of [] x h = cc
place_of (e ∷ es) x h = elim (cases_Bool (nat_eq x e.0)) [
  | inl is ↦ (0, omega arith, sym (eqb-true x e.0 is))
  | inr off ↦ let p = place_of es x (sym (ap (λ t. is_some (cond t (Some e.1) (lookup (nat_eq x) es))) off) ∙ h) in (suc p.0, omega (arith, p.1), p.2)
]

reached_more : (t : Bool) (e : ℕ) (o : Option ℕ) → is_some o ≡ true → is_some (cond t (Some e) o) ≡ true
reached_more true e o h = refl
reached_more false e o h = h

-- and at each place stands one
pub reached_there : (es : List (ℕ × ℕ)) (i : ℕ) → i < length es → is_reached es (reached_at es i) ≡ true
reached_there [] i h = absurd (omega (arith, h))
reached_there (e ∷ es) zero h = ap (λ t. is_some (cond t (Some e.1) (lookup (nat_eq e.0) es))) (eq-eqb e.0 e.0 refl)
reached_there (e ∷ es) (suc i) h = reached_more (nat_eq (reached_at es i) e.0) e.1 (lookup (nat_eq (reached_at es i)) es) (reached_there es i (omega (arith, h)))

none_equal : (k : ℕ) (es : List (ℕ × ℕ)) → AllByRecursion (λ y. nat_eq k y ≡ false) (keys_of es) → (j : ℕ) → j < length es → k ≡ reached_at es j → ⊥
none_equal k [] h j l e = omega (arith, l)
none_equal k (x ∷ es) h zero l e = true≢false (sym (eq-eqb k x.0 e) ∙ h.0)
none_equal k (x ∷ es) h (suc j) l e = none_equal k es h.1 j (omega (arith, l)) e

-- different places have different ASes
pub apart_places : (es : List (ℕ × ℕ)) → AreApart nat_eq (keys_of es) → (i j : ℕ) → i < j → j < length es → reached_at es i ≡ reached_at es j → ⊥
apart_places [] d i j lt l e = omega (arith, l)
apart_places (x ∷ es) d zero zero lt l e = omega (arith, lt)
apart_places (x ∷ es) d zero (suc j) lt l e = none_equal x.0 es (IsDistinct-head nat_eq x.0 (keys_of es) d) j (omega (arith, l)) e
apart_places (x ∷ es) d (suc i) zero lt l e = omega (arith, lt)
apart_places (x ∷ es) d (suc i) (suc j) lt l e = apart_places es (IsDistinct-tail nat_eq x.0 (keys_of es) d) i j (omega (arith, lt)) (omega (arith, l)) e

-- the place at which an AS is found
found_by : (es : List (ℕ × ℕ)) (a : ℕ) → position_or_len (nat_eq a) (keys_of es) < length (keys_of es) → reached_at es (position_or_len (nat_eq a) (keys_of es)) ≡ a
found_by [] a h = absurd (omega (arith, h))
found_by (e ∷ es) a h = by (nat_eq a e.0) refl h (found_by es a)
  where
    by : (t : Bool) → nat_eq a e.0 ≡ t → cond (not t) (1 + position_or_len (nat_eq a) (keys_of es)) 0 < length (keys_of (e ∷ es)) →
        (position_or_len (nat_eq a) (keys_of es) < length (keys_of es) → reached_at es (position_or_len (nat_eq a) (keys_of es)) ≡ a) → reached_at (e ∷ es) (cond (not t) (1 + position_or_len (nat_eq a) (keys_of es)) 0) ≡ a
    by true is h rest = sym (eqb-true a e.0 is)
    by false is h rest =
        let next : 1 + position_or_len (nat_eq a) (keys_of es) ≡ suc (position_or_len (nat_eq a) (keys_of es)) = omega arith in
        ap (reached_at (e ∷ es)) next ∙ rest (omega (arith, h))

pub found_at : (es : List (ℕ × ℕ)) (a i : ℕ) → position (nat_eq a) (keys_of es) ≡ Some i → reached_at es i ≡ a
found_at es a i h = elim (cases_Bool (nat_lt (position_or_len (nat_eq a) (keys_of es)) (length (keys_of es)))) [
  | inl e ↦
      let same : position_or_len (nat_eq a) (keys_of es) ≡ i = ap (λ t. unwrap_or t 0) (sym (ap (λ t. cond t (Some (position_or_len (nat_eq a) (keys_of es))) None) e) ∙ h) in
      ap (reached_at es) (sym same) ∙ found_by es a (ltb-true _ _ e)
  | inr off ↦ absurd (none_some i (sym (ap (λ t. cond t (Some (position_or_len (nat_eq a) (keys_of es))) None) off) ∙ h))
]
  where
    none_some : (i : ℕ) → None ≡ Some i → ⊥
    none_some i e = cc

-- ---- one more AS

-- a new AS goes last
pub insert_new : (es : List (ℕ × ℕ)) (a from : ℕ) → is_reached es a ≡ false → insert_entry nat_eq es a from ≡ es ++ (a, from) ∷ []
insert_new [] a from h = refl
insert_new (e ∷ es) a from h = elim (cases_Bool (nat_eq a e.0)) [
  | inl is ↦ absurd (true≢false (sym (ap (λ t. is_some (cond t (Some e.1) (lookup (nat_eq a) es))) is) ∙ h))
  | inr off ↦ ap (λ t. cond t ((e.0, from) ∷ es) (e ∷ insert_entry nat_eq es a from)) off ∙ ap (λ t. e ∷ t) (insert_new es a from (sym (ap (λ t. is_some (cond t (Some e.1) (lookup (nat_eq a) es))) off) ∙ h))
]

reached_before : (es : List (ℕ × ℕ)) (a from y : ℕ) → is_reached es y ≡ true → is_reached (es ++ (a, from) ∷ []) y ≡ true
reached_before [] a from y h = cc
reached_before (e ∷ es) a from y h = elim (cases_Bool (nat_eq y e.0)) [
  | inl is ↦ ap (λ t. is_some (cond t (Some e.1) (lookup (nat_eq y) (es ++ (a, from) ∷ [])))) is
  | inr off ↦ ap (λ t. is_some (cond t (Some e.1) (lookup (nat_eq y) (es ++ (a, from) ∷ [])))) off ∙ reached_before es a from y (sym (ap (λ t. is_some (cond t (Some e.1) (lookup (nat_eq y) es))) off) ∙ h)
]

reached_last : (es : List (ℕ × ℕ)) (a from : ℕ) → is_reached (es ++ (a, from) ∷ []) a ≡ true
reached_last [] a from = ap (λ t. is_some (cond t (Some from) None)) (eq-eqb a a refl)
reached_last (e ∷ es) a from = reached_more (nat_eq a e.0) e.1 (lookup (nat_eq a) (es ++ (a, from) ∷ [])) (reached_last es a from)

get_before : (es : List (ℕ × ℕ)) (e : ℕ × ℕ) (i : ℕ) → i < length es → get_or (es ++ e ∷ []) i (0, 0) ≡ get_or es i (0, 0)
get_before [] e i h = absurd (omega (arith, h))
get_before (x ∷ es) e zero h = refl
get_before (x ∷ es) e (suc i) h = get_before es e i (omega (arith, h))

get_last : (es : List (ℕ × ℕ)) (e : ℕ × ℕ) → get_or (es ++ e ∷ []) (length es) (0, 0) ≡ e
get_last [] e = refl
get_last (x ∷ es) e = get_last es e

pub gains_same : (es : List (ℕ × ℕ)) (a from : ℕ) → is_reached es a ≡ true → es ≡ gains es a from
gains_same es a from h = sym (ap (λ t. cond t es (es ++ (a, from) ∷ [])) h)

pub gains_new : (es : List (ℕ × ℕ)) (a from : ℕ) → is_reached es a ≡ false → insert_entry nat_eq es a from ≡ gains es a from
gains_new es a from h = insert_new es a from h ∙ sym (ap (λ t. cond t es (es ++ (a, from) ∷ [])) h)

-- the AS itself is reached
pub gains_it : (es : List (ℕ × ℕ)) (a from : ℕ) → is_reached (gains es a from) a ≡ true
gains_it es a from = elim (cases_Bool (is_reached es a)) [
  | inl is ↦ ap (λ t. is_reached (cond t es (es ++ (a, from) ∷ [])) a) is ∙ is
  | inr off ↦ ap (λ t. is_reached (cond t es (es ++ (a, from) ∷ [])) a) off ∙ reached_last es a from
]

pub gains_keeps : (es : List (ℕ × ℕ)) (a from y : ℕ) → is_reached es y ≡ true → is_reached (gains es a from) y ≡ true
gains_keeps es a from y h = by (is_reached es a)
  where
    by : (t : Bool) → is_reached (cond t es (es ++ (a, from) ∷ [])) y ≡ true
    by true = h
    by false = reached_before es a from y h

module _ (relation : ℕ → ℕ → Option Rel) (a from : ℕ) where
  pub goes_nowhere : (es : List (ℕ × ℕ)) → GoesOn relation a from es es
  goes_nowhere es = record { longer = omega arith; kept = λ i l. refl; stays = λ y h. h; fresh = λ i g l. absurd (omega (arith, g, l)) }

  -- a provider of the AS is reached from its place
  pub goes_further : (old es : List (ℕ × ℕ)) (y : ℕ) → GoesOn relation a from old es → relation y a ≡ Some Customer → GoesOn relation a from old (gains es y from)
  goes_further old es y on linked = by (is_reached es y)
    where
      longer : length old ≤ length (es ++ (y, from) ∷ [])
      longer = omega (arith, on.longer, length_push es (y, from))

      fresh : (i : ℕ) → length old ≤ i → i < length (es ++ (y, from) ∷ []) → (from_at (es ++ (y, from) ∷ []) i ≡ from) × (relation (reached_at (es ++ (y, from) ∷ []) i) a ≡ Some Customer)
      fresh i g l = elim (cases_eq i (length es)) [
        | inl e ↦
            let here : get_or (es ++ (y, from) ∷ []) i (0, 0) ≡ (y, from) = ap (λ k. get_or (es ++ (y, from) ∷ []) k (0, 0)) e ∙ get_last es (y, from) in
            (ap (λ (p : ℕ × ℕ). p.1) here, ap (λ (p : ℕ × ℕ). relation p.0 a) here ∙ linked)
        | inr ne ↦
            let inside : i < length es = omega (arith, l, length_push es (y, from), ne) in
            let here = get_before es (y, from) i inside in
            let was = on.fresh i g inside in
            (ap (λ (p : ℕ × ℕ). p.1) here ∙ was.0, ap (λ (p : ℕ × ℕ). relation p.0 a) here ∙ was.1)
      ]

      by : (t : Bool) → GoesOn relation a from old (cond t es (es ++ (y, from) ∷ []))
      by true = on
      by false = record {
        longer = longer;
        kept = λ i l. get_before es (y, from) i (let m = on.longer in omega (arith, l, m)) ∙ on.kept i l;
        stays = λ z h. reached_before es y from z (on.stays z h);
        fresh = fresh;
      }

-- ---- one more step

pub search_more : (relation : ℕ → ℕ → Option Rel) (start : ℕ) (es new : List (ℕ × ℕ)) (done a : ℕ) → IsSearch relation start es done → done < length es → a ≡ reached_at es done → GoesOn relation a done es new → AreApart nat_eq (keys_of new) →
    ((y : ℕ) → relation y a ≡ Some Customer → is_reached new y ≡ true) → IsSearch relation start new (done + 1)
search_more relation start es new done a s further here on unique all = record {
  unique = unique;
  reached = record {
    some = omega (arith, s.reached.some, on.longer);
    first = at 0 s.reached.some ∙ s.reached.first;
    earlier = earlier;
    linked = linked;
  };
  within = omega (arith, further, on.longer);
  all = told;
}
  where
    at : (i : ℕ) → i < length es → reached_at new i ≡ reached_at es i
    at i l = ap (λ (p : ℕ × ℕ). p.0) (on.kept i l)

    from : (i : ℕ) → i < length es → from_at new i ≡ from_at es i
    from i l = ap (λ (p : ℕ × ℕ). p.1) (on.kept i l)

    earlier : (i : ℕ) → 0 < i → i < length new → from_at new i < i
    earlier i pos l = elim (cases_lt i (length es)) [
      | inl old ↦ omega (arith, from i old, s.reached.earlier i pos old)
      | inr more ↦ omega (arith, (on.fresh i more l).0, further, more)
    ]

    linked : (i : ℕ) → 0 < i → i < length new → relation (reached_at new i) (reached_at new (from_at new i)) ≡ Some Customer
    linked i pos l = elim (cases_lt i (length es)) [
      | inl old ↦
          let low : from_at es i < length es = omega (arith, s.reached.earlier i pos old, old) in
          (λ k. relation (at i old k) ((ap (reached_at new) (from i old) ∙ at (from_at es i) low) k)) ∙ s.reached.linked i pos old
      | inr more ↦
          let f = on.fresh i more l in
          ap (relation (reached_at new i)) (ap (reached_at new) f.0 ∙ at done further ∙ sym here) ∙ f.1
    ]

    told : (i : ℕ) → i < done + 1 → (y : ℕ) → relation y (reached_at new i) ≡ Some Customer → is_reached new y ≡ true
    told i l y h = elim (cases_lt i done) [
      | inl low ↦
          let inside : i < length es = omega (arith, low, further) in
          on.stays y (s.all i low y (ap (relation y) (sym (at i inside)) ∙ h))
      | inr high ↦
          let same : i ≡ done = omega (arith, l, high) in
          all y (ap (relation y) (here ∙ sym (at done further) ∙ ap (reached_at new) (sym same)) ∙ h)
    ]

-- the first AS alone
pub first_search : (relation : ℕ → ℕ → Option Rel) (start : ℕ) (es : List (ℕ × ℕ)) (done : ℕ) → es ≡ (start, 0) ∷ [] → AreApart nat_eq (keys_of es) → done ≡ 0 → IsSearch relation start es done
first_search relation start es done is unique none = record {
  unique = unique;
  reached = subst (AreReached relation start) (sym is) (record {
    some = omega arith;
    first = refl;
    earlier = λ i pos l. omega (arith, pos, l);
    linked = λ i pos l. absurd (omega (arith, pos, l));
  });
  within = omega (arith, none);
  all = λ i l y h. absurd (omega (arith, l, none));
}

pub one_reached : (start x : ℕ) (es : List (ℕ × ℕ)) → es ≡ (start, 0) ∷ [] → x ≢ start → is_reached es x ≡ false
one_reached start x es is ne = ap (λ l. is_reached l x) is ∙ ap (λ (t : Bool). is_some {T = ℕ} (cond t (Some 0) None)) (ne_eqb x start ne)

-- where a search has gone on from all, providers of those reached are reached
pub ended : (relation : ℕ → ℕ → Option Rel) (start : ℕ) (es : List (ℕ × ℕ)) (done : ℕ) → IsSearch relation start es done → length es ≤ done → (x y : ℕ) → relation y x ≡ Some Customer → is_reached es x ≡ true → is_reached es y ≡ true
ended relation start es done s all x y h r =
    let (i, inside, is) = place_of es x r in
    s.all i (omega (arith, inside, all)) y (ap (relation y) is ∙ h)

pub start_reached : (relation : ℕ → ℕ → Option Rel) (start : ℕ) (es : List (ℕ × ℕ)) → AreReached relation start es → is_reached es start ≡ true
start_reached relation start es r = ap (is_reached es) (sym r.first) ∙ reached_there es 0 r.some

-- ---- the way back

pub first_push : (d : ℕ) (xs : List ℕ) (x : ℕ) → get_or (xs ++ x ∷ []) 0 d ≡ get_or xs 0 x
first_push d [] x = refl
first_push d (y ∷ ys) x = refl

module _ (relation : ℕ → ℕ → Option Rel) (start : ℕ) (es : List (ℕ × ℕ)) (unique : AreApart nat_eq (keys_of es)) (r : AreReached relation start es) (from place : ℕ) (way : List ℕ) (b : IsBack relation es from place way) (inside : place < length es) where
  absent : occurs (reached_at es place) way ≡ false
  absent = false_from_ne_true (occurs (reached_at es place) way) (λ h.
      let (i, above, low, is) = b.above (reached_at es place) h in
      apart_places es unique place i above low (sym is))

  pub back_more : 0 < place → IsBack relation es from (from_at es place) (way ++ reached_at es place ∷ [])
  back_more pos = record {
    descends = descent_push relation way (reached_at es place) b.descends b.next;
    distinct = distinct_push way (reached_at es place) b.distinct absent;
    next = inr (ap (λ t. relation t (reached_at es (from_at es place))) (last_or_push 0 way (reached_at es place)) ∙ r.linked place pos inside);
    first = first_push (reached_at es (from_at es place)) way (reached_at es place) ∙ b.first;
    above = λ x h. elim (occurs_push x way (reached_at es place) h) [
      | inl old ↦ let (i, above, low, is) = b.above x old in (i, omega (arith, above, r.earlier place pos inside), low, is)
      | inr e ↦ (place, r.earlier place pos inside, inside, e)
    ];
  }

  pub back_whole : place ≡ 0 → IsWayTo relation (reached_at es from) start (way ++ start ∷ [])
  back_whole zero_place =
      let is : reached_at es place ≡ start = ap (reached_at es) zero_place ∙ r.first in
      subst (λ s. IsWayTo relation (reached_at es from) s (way ++ s ∷ [])) is (record {
        descends = descent_push relation way (reached_at es place) b.descends b.next;
        distinct = distinct_push way (reached_at es place) b.distinct absent;
        first = first_push 0 way (reached_at es place) ∙ b.first;
        last = last_or_push 0 way (reached_at es place);
      })

pub no_way_yet : (relation : ℕ → ℕ → Option Rel) (es : List (ℕ × ℕ)) (from : ℕ) → IsBack relation es from from []
no_way_yet relation es from = record { descends = tt; distinct = tt; next = inl refl; first = refl; above = λ x h. cc }
