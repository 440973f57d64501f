-- Marks of ASes by place, and how many are not marked with a piece.
use Rattle.std.proofs.Common.{◌≡◌, ◌⊎◌, inl, inr, ℕ, zero, suc, ◌+◌, ◌<◌, ◌≤◌, Bool, true, false, ◌==◌, cond, nat_lt, List, [], ◌∷◌, ◌++◌, length, get_or, set, refl, sym, ◌∙◌, ap, subst, arith}
use Rattle.std.proofs.lemmas.Bool.{cases_eq, cases_lt, or_cases, or_left, or_right, eq-eqb, eqb-true, false≢true}
use Rattle.std.proofs.lemmas.Bool.Decides.{nat_tests}
use Rattle.std.proofs.lemmas.List.{length-set, get_or-set_same, get_or-set_other}
use Rattle.std.proofs.lemmas.Option.{slice_get_within, get_or_from_slice_get}
use Rattle.std.specs.List.Sorted.{IsStrictlyIncreasing}
use Rattle.net_names.specs.Numbers.{occurs}
use Rattle.as_graph.proofs.OrderLemmas.{rises, occurs_at, place_of}
use Rattle.stability_laws.specs.Runs.{HasAll}
use Rattle.stability_laws.proofs.Pieces.{occurs_left, occurs_right}
use Rattle.activations.specs.Pieces.{IsNewMark, IsNoMark, IsZeroes}

-- 1 for a mark of an earlier piece
old_mark : ℕ → ℕ → ℕ
old_mark before m = cond (nat_lt before m) 0 1

old_is : (before m : ℕ) → m ≤ before → old_mark before m ≡ 1
unfolding old_mark
old_is before m le = grind (arith, nat_tests)

new_is : (before m : ℕ) → before < m → old_mark before m ≡ 0
unfolding old_mark
new_is before m lt = grind (arith, nat_tests)

-- how many marks are of earlier pieces
pub left_in : ℕ → List ℕ → ℕ
left_in before [] = 0
left_in before (m ∷ ms) = old_mark before m + left_in before ms

left_set : (before v : ℕ) (ms : List ℕ) (i : ℕ) → i < length ms → get_or ms i 0 ≤ before → before < v → left_in before (set ms i v) + 1 ≡ left_in before ms
unfolding left_in
left_set before v [] i less old new = absurd (omega arith)
left_set before v (m ∷ ms) zero less old new = omega (arith, old_is before m old, new_is before v new)
left_set before v (m ∷ ms) (suc i) less old new = omega (arith, left_set before v ms i (omega arith) old new)

left_none : (before : ℕ) (ms : List ℕ) → left_in before ms ≡ 0 → (i : ℕ) → i < length ms → before < get_or ms i 0
unfolding left_in
left_none before [] is i less = absurd (omega arith)
left_none before (m ∷ ms) is zero less = elim (cases_lt before m) [ inl h ↦ h | inr h ↦ absurd (omega (arith, old_is before m h)) ]
left_none before (m ∷ ms) is (suc i) less = left_none before ms (omega (arith, is)) i (omega arith)

left_some : (before : ℕ) (ms : List ℕ) → 0 < left_in before ms → (i : ℕ) × (i < length ms) × (get_or ms i 0 ≤ before)
unfolding left_in
left_some before [] some = absurd (omega arith)
left_some before (m ∷ ms) some = elim (cases_lt before m) [
  | inl h ↦ let (i, less, old) = left_some before ms (omega (arith, some, new_is before m h)) in (suc i, omega arith, old)
  | inr h ↦ (0, omega arith, h)
]

left_all : (before : ℕ) (ms : List ℕ) → ((i : ℕ) → i < length ms → get_or ms i 0 ≤ before) → left_in before ms ≡ length ms
unfolding left_in
left_all before [] old = refl
left_all before (m ∷ ms) old = omega (arith, old_is before m (old 0 (omega arith)), left_all before ms (λ i less. old (suc i) (omega arith)))

-- in a list and one number more
in_push : (a : ℕ) (xs : List ℕ) (x : ℕ) → occurs a (xs ++ x ∷ []) ≡ true → (occurs a xs ≡ true) ⊎ (x ≡ a)
in_push a [] x h = elim (or_cases (x == a) false h) [ inl e ↦ inr (eqb-true x a e) | inr e ↦ absurd (false≢true e) ]
in_push a (y ∷ ys) x h = elim (or_cases (y == a) (occurs a (ys ++ x ∷ [])) h) [
  | inl e ↦ inl (or_left (y == a) (occurs a ys) e)
  | inr e ↦ elim (in_push a ys x e) [ inl f ↦ inl (or_right (y == a) (occurs a ys) f) | inr f ↦ inr f ]
]

push_in : (a : ℕ) (xs : List ℕ) (x : ℕ) → x ≡ a → occurs a (xs ++ x ∷ []) ≡ true
push_in a xs x e = occurs_right a xs (x ∷ []) (or_left (x == a) false (eq-eqb x a e))

module _ (ases : List ℕ) where
  -- an AS is marked with the piece exactly where it stands in what there is of it
  pub record AreMarks (marks : List ℕ) (before count : ℕ) (cur : List ℕ) : Type 0 where
    pub long : length marks ≡ length ases
    pub low : (i : ℕ) → i < length marks → get_or marks i 0 ≤ before + 1
    pub marked : (i : ℕ) → i < length marks → before < get_or marks i 0 → occurs (get_or ases i 0) cur ≡ true
    pub seen : (i : ℕ) → i < length marks → occurs (get_or ases i 0) cur ≡ true → before < get_or marks i 0
    pub left : count ≡ left_in before marks

  pub marks_start : (marks : List ℕ) → IsZeroes (length ases) marks → AreMarks marks 0 (length ases) []
  marks_start marks z = record {
    long = z.long;
    low = λ i less. omega (arith, z.zero i);
    marked = λ i less h. absurd (omega (arith, z.zero i));
    seen = λ i less h. absurd (false≢true h);
    left = sym (left_all 0 marks (λ i less. omega (arith, z.zero i)) ∙ z.long);
  }

  pub marks_open : (marks : List ℕ) (before left : ℕ) (cur : List ℕ) (has : ℕ → Bool) → ((a : ℕ) → occurs a ases ≡ has a) → AreMarks marks before left cur → 0 < left → HasAll has cur → ⊥
  marks_open marks before left cur has listed m some all =
      let (i, less, old) = left_some before marks (omega (arith, m.left)) in
      let in_ases : i < length ases = omega (arith, m.long) in
      let new : before < get_or marks i 0 = m.seen i less (all (get_or ases i 0) (sym (listed (get_or ases i 0)) ∙ occurs_at ases i in_ases)) in
      omega arith

  pub marks_full : (marks : List ℕ) (before left : ℕ) (cur : List ℕ) (has : ℕ → Bool) → ((a : ℕ) → occurs a ases ≡ has a) → AreMarks marks before left cur → left ≡ 0 → HasAll has cur
  marks_full marks before left cur has listed m none a h =
      let (i, less, is) = place_of ases a (listed a ∙ h) in
      let in_marks : i < length marks = omega (arith, m.long) in
      subst (λ t. occurs t cur ≡ true) is (m.marked i in_marks (left_none before marks (sym m.left ∙ none) i in_marks))

  pub marks_next : (marks : List ℕ) (before left : ℕ) (cur : List ℕ) → AreMarks marks before left cur → AreMarks marks (before + 1) (length ases) []
  marks_next marks before left cur m = record {
    long = m.long;
    low = λ i less. omega (arith, m.low i less);
    marked = λ i less h. absurd (omega (arith, m.low i less));
    seen = λ i less h. absurd (false≢true h);
    left = sym (left_all (before + 1) marks m.low ∙ m.long);
  }

  module _ (rising : IsStrictlyIncreasing ases) where
    one_place : (i j : ℕ) → i < length ases → j < length ases → get_or ases i 0 ≡ get_or ases j 0 → i ≡ j
    one_place i j li lj e = elim (cases_lt i j) [
      | inl h ↦ absurd (omega (arith, rises ases rising i j h lj))
      | inr h ↦ elim (cases_lt j i) [ inl k ↦ absurd (omega (arith, rises ases rising j i k li)) | inr k ↦ omega arith ]
    ]

    pub marks_same : (marks new : List ℕ) (before left : ℕ) (cur : List ℕ) (x : ℕ) → AreMarks marks before left cur → IsNoMark ases x before marks new → AreMarks new before left (cur ++ x ∷ [])
    marks_same marks new before left cur x m kept = subst (λ t. AreMarks t before left (cur ++ x ∷ [])) (sym kept.same) (record {
      long = m.long;
      low = m.low;
      marked = λ i less h. occurs_left (get_or ases i 0) cur (x ∷ []) (m.marked i less h);
      seen = λ i less h. elim (in_push (get_or ases i 0) cur x h) [
        | inl e ↦ m.seen i less e
        | inr e ↦ elim kept.why [
          | inl away ↦ absurd (false≢true (sym away ∙ ap (λ t. occurs t ases) e ∙ occurs_at ases i (omega (arith, m.long))))
          | inr at ↦
              let same : i ≡ at.place = one_place i at.place (omega (arith, m.long)) (slice_get_within ases at.place x at.here) (sym e ∙ sym (get_or_from_slice_get ases at.place x 0 at.here)) in
              subst (λ t. before < get_or marks t 0) (sym same) at.now
        ]
      ];
      left = m.left;
    })

    pub marks_more : (marks new : List ℕ) (before left : ℕ) (cur : List ℕ) (x : ℕ) → AreMarks marks before left cur → IsNewMark ases x before marks new → (less : ℕ) → less + 1 ≡ left → AreMarks new before less (cur ++ x ∷ [])
    marks_more marks new before left cur x m n less one_less =
        let in_ases : n.place < length ases = slice_get_within ases n.place x n.here in
        let in_marks : n.place < length marks = omega (arith, m.long) in
        let at : get_or ases n.place 0 ≡ x = get_or_from_slice_get ases n.place x 0 n.here in
        let now : get_or (set marks n.place (before + 1)) n.place 0 ≡ before + 1 = get_or-set_same marks n.place (before + 1) 0 in_marks in
        let same_length : length (set marks n.place (before + 1)) ≡ length marks = length-set marks n.place (before + 1) in
        subst (λ t. AreMarks t before less (cur ++ x ∷ [])) (sym n.set) (record {
          long = same_length ∙ m.long;
          low = λ i l. elim (cases_eq i n.place) [
            | inl e ↦ omega (arith, subst (λ t. get_or (set marks n.place (before + 1)) t 0 ≡ before + 1) (sym e) now)
            | inr ne ↦ omega (arith, get_or-set_other marks n.place i (before + 1) 0 ne, m.low i (omega (arith, same_length)))
          ];
          marked = λ i l h. elim (cases_eq i n.place) [
            | inl e ↦ push_in (get_or ases i 0) cur x (sym at ∙ ap (λ t. get_or ases t 0) (sym e))
            | inr ne ↦ occurs_left (get_or ases i 0) cur (x ∷ []) (m.marked i (omega (arith, same_length)) (omega (arith, get_or-set_other marks n.place i (before + 1) 0 ne)))
          ];
          seen = λ i l h. elim (cases_eq i n.place) [
            | inl e ↦ omega (arith, subst (λ t. get_or (set marks n.place (before + 1)) t 0 ≡ before + 1) (sym e) now)
            | inr ne ↦ elim (in_push (get_or ases i 0) cur x h) [
              | inl f ↦ omega (arith, get_or-set_other marks n.place i (before + 1) 0 ne, m.seen i (omega (arith, same_length)) f)
              | inr f ↦ absurd (ne (one_place i n.place (omega (arith, same_length, m.long)) in_ases (sym f ∙ sym at)))
            ]
          ];
          left = (let one : left_in before (set marks n.place (before + 1)) + 1 ≡ left_in before marks = left_set before (before + 1) marks n.place in_marks n.old (omega arith) in omega (arith, m.left));
        })
