-- Places in a list of numbers that rise.
use Rattle.std.proofs.Common.{◌≡◌, ℕ, ◌≢◌, zero, suc, ◌+◌, ◌<◌, ◌≤◌, true, false, ◌==◌, List, [], ◌∷◌, length, get_or, Option, None, Some, Result, Ok, Err, is_ok, refl, sym, ap, ◌∙◌, ◌||◌, ◌-◌, subst, arith, inl, inr}
use Rattle.std.specs.List.Sorted.{IsSearchInRange, IsBinarySearchResult, IsNonDecreasingBy, IsStrictlyIncreasing}
use Rattle.std.specs.Ordering.{nat_cmp, ordering_index}
use Rattle.std.proofs.lemmas.Cmp.{ranked}
use Rattle.std.proofs.lemmas.List.Kept.{AllPairs-from_increasing}
use Rattle.std.proofs.lemmas.List.Sorted.{IsNonDecreasingBy-from_default, list_any-IsPermutation, IsPermutation-insert}
use Rattle.std.proofs.lemmas.List.Edits.{length-insert, get_or-insert_below, get_or-insert_at, get_or-insert_above, length-remove, get_or-remove_below, get_or-remove_above}
use Rattle.std.specs.List.{insert, remove}
use Rattle.std.proofs.lemmas.Bool.{cases_eq, cases_lt, eq-eqb, ne_eqb, eqb-true, or_cases, or_left, or_right, false≢true, false_from_ne_true}
use Rattle.std.proofs.lemmas.Bool.Decides.{nat_tests}
use Rattle.net_names.specs.Numbers.{occurs}
use Rattle.as_graph.specs.Following.{IsAbove}
use Rattle.as_graph.specs.Order.{IsStart}

-- each is below all later ones
pub rises : (ns : List ℕ) → IsStrictlyIncreasing ns → (i j : ℕ) → i < j → j < length ns → get_or ns i 0 < get_or ns j 0
rises ns rising i j lt h = AllPairs-from_increasing ns rising i j 0 lt h

pub occurs_at : (ns : List ℕ) (i : ℕ) → i < length ns → occurs (get_or ns i 0) ns ≡ true
occurs_at [] i l = absurd (omega arith)
occurs_at (n ∷ ns) zero l = or_left (n == n) (occurs n ns) (eq-eqb n n refl)
occurs_at (n ∷ ns) (suc i) l = or_right (n == get_or ns i 0) (occurs (get_or ns i 0) ns) (occurs_at ns i (omega arith))

pub place_of : (ns : List ℕ) (a : ℕ) → occurs a ns ≡ true → (i : ℕ) × (i < length ns) × (get_or ns i 0 ≡ a)
place_of [] a h = absurd (false≢true h)
place_of (n ∷ ns) a h = elim (or_cases (n == a) (occurs a ns) h) [
  | inl e ↦ (0, omega arith, eqb-true n a e)
  | inr r ↦ let p = place_of ns a r in (suc p.0, omega (arith, p.1), p.2)
]

module _ (ns : List ℕ) (rising : IsStrictlyIncreasing ns) (bound : Option ℕ) (at : ℕ) (start : IsStart ns bound at) where
  -- the number at the start is in the list, above the bound, and the least of these
  pub occurs_start : at < length ns → occurs (get_or ns at 0) ns ≡ true
  occurs_start h = occurs_at ns at h

  pub above_start : at < length ns → IsAbove bound (get_or ns at 0)
  above_start h = start.from at (omega arith) h

  pub least_start : at < length ns → (k : ℕ) → occurs k ns ≡ true → IsAbove bound k → get_or ns at 0 ≤ k
  least_start h k in_ns above =
      let (i, lt, is) = place_of ns k in_ns in
      elim (cases_lt i at) [
        | inl b ↦ absurd (start.below i b lt (subst (IsAbove bound) (sym is) above))
        | inr g ↦ elim (cases_eq at i) [
          | inl e ↦ omega (arith, is, ap (λ j. get_or ns j 0) e)
          | inr n ↦ omega (arith, is, rises ns rising at i (omega (arith, g, n)) lt)
        ]
      ]

  -- past the end, none is above the bound
  pub none_above : length ns ≤ at → (k : ℕ) → IsAbove bound k → occurs k ns ≡ false
  none_above past k above = false_from_ne_true (occurs k ns) (λ h.
      let (i, lt, is) = place_of ns k h in
      start.below i (omega (arith, lt, past)) lt (subst (IsAbove bound) (sym is) above))

pub start_none : (ns : List ℕ) → IsStart ns None 0
start_none ns = record { below = λ j l m h. omega (arith, l); from = λ j l m. tt }

comparisons_rise : (ns : List ℕ) → IsStrictlyIncreasing ns → (k : ℕ) → IsNonDecreasingBy (λ n. ordering_index (nat_cmp n k)) ns
comparisons_rise ns rising k = IsNonDecreasingBy-from_default (λ n. ordering_index (nat_cmp n k)) ns 0 (λ i j le in_range.
    let rise : get_or ns i 0 ≤ get_or ns j 0 = grind (arith, rises ns rising i j, λ (same : i ≡ j). ap (λ t. get_or ns t 0) same) in
    grind (arith, nat_tests))

-- one past the number, or the gap for it
abbrev pub start_of : Result ℕ ℕ → ℕ
start_of (Ok i) = i + 1
start_of (Err i) = i

pub start_some : (ns : List ℕ) → IsStrictlyIncreasing ns → (k : ℕ) (r : Result ℕ ℕ) → IsSearchInRange r (length ns) → IsBinarySearchResult (λ n. nat_cmp n k) ns r → IsStart ns (Some k) (start_of r)
start_some ns rising k (Ok at) in_range equal =
    let here : get_or ns at 0 ≡ k = ranked _ k _ (sym (equal 0)) in
    record {
      below = λ j lt in_l above. elim (cases_eq j at) [
        | inl e ↦ omega (arith, above, here, ap (λ t. get_or ns t 0) e)
        | inr n ↦ omega (arith, above, here, rises ns rising j at (omega (arith, lt, n)) in_range)
      ];
      from = λ j le in_l. omega (arith, here, rises ns rising at j (omega (arith, le)) in_l);
    }
start_some ns rising k (Err at) in_range parted = record {
  below = λ j lt in_l above.
      let small : get_or ns j 0 < k = ranked _ k _ (sym ((parted (comparisons_rise ns rising k)).0 j 0 (omega arith) lt)) in
      omega (arith, above, small);
  from = λ j le in_l. ranked _ k _ (sym ((parted (comparisons_rise ns rising k)).1 j 0 le in_l));
}

-- ---- a new number in its place

module _ (ns : List ℕ) (rising : IsStrictlyIncreasing ns) (x at : ℕ) (start : IsStart ns (Some x) at) (within : at ≤ length ns) where
  pub occurs-insert : (a : ℕ) → occurs a (insert ns at x) ≡ (x == a || occurs a ns)
  occurs-insert a = sym (list_any-IsPermutation (λ y. y == a) (x ∷ ns) (insert ns at x) (IsPermutation-insert ns at x))

  pub rising_insert : occurs x ns ≡ false → IsStrictlyIncreasing (insert ns at x)
  rising_insert absent k h =
      let new = insert ns at x in
      let len : length new ≡ length ns + 1 = length-insert ns at x within in
      let below : (i : ℕ) → i < at → get_or new i 0 ≡ get_or ns i 0 = λ i lt. get_or-insert_below ns at x 0 i lt within in
      let here : (i : ℕ) → i ≡ at → get_or new i 0 ≡ x = λ i e. subst (λ j. get_or new j 0 ≡ x) (sym e) (get_or-insert_at ns at x 0 within) in
      let above : (i : ℕ) → at < i → get_or new i 0 ≡ get_or ns (i - 1) 0 = λ i lt. subst (λ q. get_or new q 0 ≡ get_or ns (i - 1) 0) {x = i - 1 + 1} (omega arith) (get_or-insert_above ns at x 0 (i - 1) (omega arith) within) in
      let smaller : (i : ℕ) → i < at → get_or ns i 0 < x = λ i lt. low i lt (start.below i lt (omega arith)) in
      elim (cases_lt (k + 1) at) [
        | inl b ↦ omega (arith, below k (omega arith), below (k + 1) b, rising k (omega arith))
        | inr ge ↦ elim (cases_eq (k + 1) at) [
          | inl e ↦ omega (arith, below k (omega (arith, e)), here (k + 1) e, smaller k (omega (arith, e)))
          | inr n ↦ elim (cases_eq k at) [
            | inl e ↦ omega (arith, here k e, above (k + 1) (omega (arith, e)), start.from k (omega (arith, e)) (omega (arith, len, h)), ap (λ j. get_or ns j 0) (let same : k + 1 - 1 ≡ k = omega arith in same))
            | inr m ↦ omega (arith, above k (omega arith), above (k + 1) (omega arith), rising (k - 1) (omega arith), ap (λ j. get_or ns j 0) (let same : k + 1 - 1 ≡ k - 1 + 1 = omega arith in same))
          ]
        ]
      ]
    where
      low : (i : ℕ) → i < at → (x < get_or ns i 0 → ⊥) → get_or ns i 0 < x
      low i lt not_above = elim (cases_eq (get_or ns i 0) x) [
        | inl e ↦ absurd (false≢true (sym absent ∙ ap (λ y. occurs y ns) (sym e) ∙ occurs_at ns i (omega arith)))
        | inr n ↦ elim (cases_lt x (get_or ns i 0)) [ inl up ↦ absurd (not_above up) | inr down ↦ omega (arith, n, down) ]
      ]

-- ---- a number is found or not

pub searched_listed : (ns : List ℕ) → IsStrictlyIncreasing ns → (k : ℕ) (r : Result ℕ ℕ) → IsSearchInRange r (length ns) → IsBinarySearchResult (λ n. nat_cmp n k) ns r → is_ok r ≡ occurs k ns
searched_listed ns rising k (Ok at) in_range equal =
    let here : get_or ns at 0 ≡ k = ranked _ k _ (sym (equal 0)) in
    sym (ap (λ x. occurs x ns) (sym here) ∙ occurs_at ns at in_range)
searched_listed ns rising k (Err at) in_range parted = sym (false_from_ne_true (occurs k ns) (λ h.
    let (i, lt, is) = place_of ns k h in
    elim (cases_lt i at) [
      | inl low ↦
          let small : get_or ns i 0 < k = ranked _ k _ (sym ((parted (comparisons_rise ns rising k)).0 i 0 (omega arith) low)) in
          omega (arith, is, small)
      | inr high ↦
          let great : k < get_or ns i 0 = ranked _ k _ (sym ((parted (comparisons_rise ns rising k)).1 i 0 high lt)) in
          omega (arith, is, great)
    ]))

-- ---- a number is taken out

occurs_off : (ns : List ℕ) (at a : ℕ) → at < length ns → get_or ns at 0 ≢ a → occurs a (remove ns at) ≡ occurs a ns
occurs_off [] at a h ne = absurd (omega (arith, h))
occurs_off (n ∷ ns) zero a h ne = sym (ap (λ t. t || occurs a ns) (ne_eqb n a ne))
occurs_off (n ∷ ns) (suc at) a h ne = ap (λ t. n == a || t) (occurs_off ns at a (omega (arith, h)) ne)

module _ (ns : List ℕ) (rising : IsStrictlyIncreasing ns) (x at : ℕ) (within : at < length ns) (here : get_or ns at 0 ≡ x) where
  pub occurs-remove : (a : ℕ) → a ≢ x → occurs a (remove ns at) ≡ occurs a ns
  occurs-remove a ne = occurs_off ns at a within (λ e. ne (sym e ∙ here))

  len : length (remove ns at) + 1 ≡ length ns
  len = length-remove ns at within

  below : (i : ℕ) → i < at → get_or (remove ns at) i 0 ≡ get_or ns i 0
  below i lt = get_or-remove_below ns at 0 i lt within

  above : (i : ℕ) → at ≤ i → get_or (remove ns at) i 0 ≡ get_or ns (i + 1) 0
  above i le = get_or-remove_above ns at 0 i le within

  pub gone-remove : occurs x (remove ns at) ≡ false
  gone-remove = false_from_ne_true (occurs x (remove ns at)) (λ h.
      let (i, lt, is) = place_of (remove ns at) x h in
      elim (cases_lt i at) [
        | inl low ↦ omega (arith, is, here, below i low, rises ns rising i at low within)
        | inr high ↦ omega (arith, is, here, above i high, rises ns rising at (i + 1) (omega (arith, high)) (omega (arith, lt, len)))
      ])

  pub rising_remove : IsStrictlyIncreasing (remove ns at)
  rising_remove k h = elim (cases_lt (k + 1) at) [
    | inl low ↦ omega (arith, below k (omega (arith, low)), below (k + 1) low, rising k (omega (arith, h, len)))
    | inr high ↦ elim (cases_lt k at) [
      | inl low ↦ omega (arith, below k low, above (k + 1) high, rises ns rising k (k + 1 + 1) (omega arith) (omega (arith, h, len)))
      | inr up ↦ omega (arith, above k up, above (k + 1) high, rising (k + 1) (omega (arith, h, len)))
    ]
  ]
