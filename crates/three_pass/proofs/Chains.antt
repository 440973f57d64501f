-- Notes that are chained stay so where one more is put behind them.
use Rattle.std.proofs.Common.{nat_eq, ◌≡◌, ◌≢◌, ◌⊎◌, inl, inr, ℕ, ◌+◌, ◌-◌, ◌<◌, ◌≤◌, ◌++◌, true, false, List, [], ◌∷◌, length, get_or, set, refl, sym, ◌∙◌, ap, arith}
use Rattle.std.proofs.lemmas.Bool.{cases_eq, cases_lt, eq-eqb}
use Rattle.std.proofs.lemmas.List.{get_or_append_left, get_or-append-add, get_or-set_same, get_or-set_other}
use Rattle.std.proofs.lemmas.Map.Keys.{apart_from_distinct}
use Rattle.std.specs.List.{IsDistinct}
use Rattle.three_pass.specs.Notes.{IsChained}

-- different rows have different ASes
rows_differ : (rows : List ℕ) (i j : ℕ) → IsDistinct nat_eq rows → i < length rows → j < length rows → i ≢ j → get_or rows i 0 ≢ get_or rows j 0
rows_differ rows i j apart less less' ne same = elim (cases_lt i j) [
  | inl before ↦ (let x : true ≡ false = sym (eq-eqb _ _ same) ∙ apart_from_distinct nat_eq rows i j 0 apart before less' in cc)
  | inr after ↦ (let x : true ≡ false = sym (eq-eqb _ _ (sym same)) ∙ apart_from_distinct nat_eq rows j i 0 apart (elim (cases_lt j i) [ inl l ↦ l | inr l ↦ absurd (ne (omega (arith, after, l))) ]) less in cc)
]

-- the last of a list and one more
at_end : (xs : List ℕ) (y : ℕ) → get_or (xs ++ y ∷ []) (length xs) 0 ≡ y
at_end xs y = (let e : length xs + 0 ≡ length xs = omega arith in ap (λ n. get_or (xs ++ y ∷ []) n 0) (sym e)) ∙ get_or-append-add xs (y ∷ []) 0 0

module _ (rows last to before : List ℕ) (at a : ℕ) (apart : IsDistinct nat_eq rows) (len : length last ≡ length rows) (both : length before ≡ length to) (inside : at < length rows) (is : get_or rows at 0 ≡ a) (are : IsChained rows last to before) where
  abbrev last' : List ℕ
  last' = set last at (length to + 1)

  abbrev to' : List ℕ
  to' = to ++ a ∷ []

  abbrev before' : List ℕ
  before' = before ++ get_or last at 0 ∷ []

  here : get_or last' at 0 ≡ length to + 1
  here = get_or-set_same last at (length to + 1) 0 (omega (arith, inside, len))

  other : (k : ℕ) → k ≢ at → get_or last' k 0 ≡ get_or last k 0
  other k ne = get_or-set_other last at k (length to + 1) 0 ne

  to_old : (j : ℕ) → j < length to → get_or to' j 0 ≡ get_or to j 0
  to_old j less = get_or_append_left to (a ∷ []) 0 j less

  to_new : (j : ℕ) → j ≡ length to → get_or to' j 0 ≡ a
  to_new j e = ap (λ n. get_or to' n 0) e ∙ at_end to a

  before_old : (j : ℕ) → j < length to → get_or before' j 0 ≡ get_or before j 0
  before_old j less = get_or_append_left before (get_or last at 0 ∷ []) 0 j (omega (arith, less, both))

  before_new : (j : ℕ) → j ≡ length to → get_or before' j 0 ≡ get_or last at 0
  before_new j e = ap (λ n. get_or before' n 0) (e ∙ sym both) ∙ at_end before (get_or last at 0)

  more : length to' ≡ length to + 1
  more = length_more to
    where
      length_more : (xs : List ℕ) → length (xs ++ a ∷ []) ≡ length xs + 1
      length_more [] = refl
      length_more (x ∷ xs) = (let h = length_more xs in omega (arith, h))

  old_or_new : (j : ℕ) → j < length to' → (j < length to) ⊎ (j ≡ length to)
  old_or_new j less = elim (cases_lt j (length to)) [ inl l ↦ inl l | inr l ↦ inr (omega (arith, l, less, more)) ]

  within : (k : ℕ) → k < length rows → get_or last' k 0 ≤ length to'
  within k less = elim (cases_eq k at) [
    | inl e ↦ (let x = ap (λ n. get_or last' n 0) e ∙ here in omega (arith, x, more))
    | inr ne ↦ omega (arith, other k ne, are.within k less, more)
  ]

  own : (k : ℕ) → k < length rows → 0 < get_or last' k 0 → get_or to' (get_or last' k 0 - 1) 0 ≡ get_or rows k 0
  own k less some = elim (cases_eq k at) [
    | inl e ↦ (let x = ap (λ n. get_or last' n 0) e ∙ here in to_new (get_or last' k 0 - 1) (omega (arith, x)) ∙ sym is ∙ sym (ap (λ n. get_or rows n 0) e))
    | inr ne ↦ (let x = other k ne in
        ap (λ n. get_or to' (n - 1) 0) x ∙ to_old (get_or last k 0 - 1) (omega (arith, x, some, are.within k less)) ∙ are.own k less (omega (arith, x, some)))
  ]

  none_after : (k j : ℕ) → k < length rows → get_or last' k 0 ≤ j → j < length to' → get_or to' j 0 ≢ get_or rows k 0
  none_after k j less from up same = elim (cases_eq k at) [
    | inl e ↦ (let x = ap (λ n. get_or last' n 0) e ∙ here in absurd (omega (arith, x, from, up, more)))
    | inr ne ↦ elim (old_or_new j up) [
      | inl old ↦ are.none_after k j less (omega (arith, from, other k ne)) old (sym (to_old j old) ∙ same)
      | inr new ↦ rows_differ rows at k apart inside less (λ e. ne (sym e)) (is ∙ sym (to_new j new) ∙ same)
    ]
  ]

  earlier : (i : ℕ) → i < length to' → get_or before' i 0 ≤ i
  earlier i up = elim (old_or_new i up) [
    | inl old ↦ omega (arith, before_old i old, are.earlier i old)
    | inr new ↦ omega (arith, before_new i new, are.within at inside, new)
  ]

  same : (i : ℕ) → i < length to' → 0 < get_or before' i 0 → get_or to' (get_or before' i 0 - 1) 0 ≡ get_or to' i 0
  same i up some = elim (old_or_new i up) [
    | inl old ↦ (let x = before_old i old in
        ap (λ n. get_or to' (n - 1) 0) x ∙ to_old (get_or before i 0 - 1) (omega (arith, x, some, are.earlier i old, old)) ∙ are.same i old (omega (arith, x, some)) ∙ sym (to_old i old))
    | inr new ↦ (let x = before_new i new in
        ap (λ n. get_or to' (n - 1) 0) x ∙ to_old (get_or last at 0 - 1) (omega (arith, x, some, are.within at inside)) ∙ are.own at inside (omega (arith, x, some)) ∙ is ∙ sym (to_new i new))
  ]

  none_between : (i j : ℕ) → i < length to' → get_or before' i 0 ≤ j → j < i → get_or to' j 0 ≢ get_or to' i 0
  none_between i j up from less equal = elim (old_or_new i up) [
    | inl old ↦ are.none_between i j old (omega (arith, from, before_old i old)) less (sym (to_old j (omega (arith, less, old))) ∙ equal ∙ to_old i old)
    | inr new ↦ are.none_after at j inside (omega (arith, from, before_new i new)) (omega (arith, less, new)) (sym (to_old j (omega (arith, less, new))) ∙ equal ∙ to_new i new ∙ sym is)
  ]

  pub chained_more : IsChained rows last' to' before'
  chained_more = record { within = within; own = own; none_after = none_after; earlier = earlier; same = same; none_between = none_between }

-- without a note all is chained
pub chained_none : (rows last : List ℕ) → ((k : ℕ) → get_or last k 0 ≡ 0) → IsChained rows last [] []
chained_none rows last zero = record {
  within = λ k less. omega (arith, zero k);
  own = λ k less some. absurd (omega (arith, zero k, some));
  none_after = λ k j less from up. absurd (omega (arith, up));
  earlier = λ i up. absurd (omega (arith, up));
  same = λ i up some. absurd (omega (arith, up));
  none_between = λ i j up from less. absurd (omega (arith, up));
}
