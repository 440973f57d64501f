-- How many customers wait.
use Rattle.std.proofs.Common.{◌≡◌, ◌≢◌, ◌⊎◌, inl, inr, ℕ, zero, suc, ◌+◌, ◌<◌, ◌≤◌, Bool, true, false, ◌==◌, cond, List, [], ◌∷◌, ◌++◌, length, refl, sym, ◌∙◌, ap, subst, arith}
use Rattle.std.proofs.lemmas.Bool.{cases_Bool, cases_eq, eqb-true, eq-eqb, or_cases, or_left, or_right}
use Rattle.net_names.specs.Numbers.{occurs}
use Rattle.cycle_check.specs.Stages.{times, waiting}

pub times_some : (p : ℕ) (xs : List ℕ) → occurs p xs ≡ true → 0 < times p xs
times_some p [] o = cc
times_some p (x ∷ xs) o = by (x == p) refl (times_some p xs)
  where
    by : (b : Bool) → (x == p) ≡ b → (occurs p xs ≡ true → 0 < times p xs) → 0 < cond b 1 0 + times p xs
    by true e ih = omega arith
    by false e ih = elim (or_cases (x == p) (occurs p xs) o) [
      | inl is ↦ cc
      | inr there ↦ (let more = ih there in omega (arith, more))
    ]

pub some_times : (p : ℕ) (xs : List ℕ) → 0 < times p xs → occurs p xs ≡ true
some_times p [] h = absurd (omega arith)
some_times p (x ∷ xs) h = by (x == p) refl h (some_times p xs)
  where
    by : (b : Bool) → (x == p) ≡ b → 0 < cond b 1 0 + times p xs → (0 < times p xs → occurs p xs ≡ true) → occurs p (x ∷ xs) ≡ true
    by true e h ih = or_left (x == p) (occurs p xs) e
    by false e h ih = or_right (x == p) (occurs p xs) (ih (omega arith))

pub cases_pos : (m : ℕ) → (m ≡ 0) ⊎ (0 < m)
cases_pos zero = inl refl
cases_pos (suc m) = inr (omega arith)

pub times_none : (p : ℕ) (xs : List ℕ) → occurs p xs ≡ false → times p xs ≡ 0
times_none p xs o = elim (cases_pos (times p xs)) [ inl e ↦ e | inr h ↦ (let there = some_times p xs h in cc) ]

pub times_same : (p q : ℕ) (xs : List ℕ) → q ≡ p → times p (q ∷ xs) ≡ 1 + times p xs
times_same p q xs e = ap (λ b. cond b 1 0 + times p xs) (eq-eqb q p e)

pub times_other : (p q : ℕ) (xs : List ℕ) → q ≢ p → times p (q ∷ xs) ≡ times p xs
times_other p q xs ne = elim (cases_Bool (q == p)) [
  | inl e ↦ absurd (ne (eqb-true q p e))
  | inr e ↦ ap (λ b. cond b 1 0 + times p xs) e ∙ omega arith
]

pub times_append : (p : ℕ) (xs ys : List ℕ) → times p (xs ++ ys) ≡ times p xs + times p ys
times_append p [] ys = omega arith
times_append p (x ∷ xs) ys = let rest = times_append p xs ys in omega (arith, rest)

pub times_le : (p : ℕ) (xs : List ℕ) → times p xs ≤ length xs
times_le p [] = omega arith
times_le p (x ∷ xs) = by (x == p) (times_le p xs)
  where
    by : (b : Bool) → times p xs ≤ length xs → cond b 1 0 + times p xs ≤ suc (length xs)
    by true h = omega arith
    by false h = omega arith

module _ (rows : ℕ → List ℕ) where
  -- where a place waits, a customer that is not done has it in its list
  pub waiting_some : (done : List ℕ) (p n : ℕ) → 0 < waiting rows done p n → (b : ℕ) × (b < n) × (occurs b done ≡ false) × (occurs p (rows b) ≡ true)
  waiting_some done p zero h = absurd (omega arith)
  waiting_some done p (suc n) h = by (occurs n done) refl h (waiting_some done p n)
    where
      up : ((b : ℕ) × (b < n) × (occurs b done ≡ false) × (occurs p (rows b) ≡ true)) → (b : ℕ) × (b < suc n) × (occurs b done ≡ false) × (occurs p (rows b) ≡ true)
      up (b, less, not_done, there) = (b, omega (arith, less), not_done, there)

      by : (t : Bool) → occurs n done ≡ t → 0 < cond t 0 (times p (rows n)) + waiting rows done p n → (0 < waiting rows done p n → (b : ℕ) × (b < n) × (occurs b done ≡ false) × (occurs p (rows b) ≡ true)) → (b : ℕ) × (b < suc n) × (occurs b done ≡ false) × (occurs p (rows b) ≡ true)
      by true e h ih = up (ih (omega arith))
      by false e h ih = elim (cases_Bool (occurs p (rows n))) [
        | inl there ↦ (n, omega arith, e, there)
        | inr away ↦ up (ih (let none = times_none p (rows n) away in omega (arith, none, h)))
      ]

  -- where no place waits, no customer that is not done has it in its list
  pub waiting_none : (done : List ℕ) (p n b : ℕ) → waiting rows done p n ≡ 0 → b < n → occurs p (rows b) ≡ true → occurs b done ≡ true
  waiting_none done p zero b e h o = absurd (omega arith)
  waiting_none done p (suc n) b e h o = elim (cases_eq b n) [
    | inl is ↦ (elim (cases_Bool (occurs b done)) [
      | inl there ↦ there
      | inr away ↦ (
          let more = times_some p (rows b) o in
          let away_n : occurs n done ≡ false = subst (λ t. occurs t done ≡ false) is away in
          let value : cond (occurs n done) 0 (times p (rows n)) ≡ times p (rows n) = ap (λ t. cond t 0 (times p (rows n))) away_n in
          let same : times p (rows b) ≡ times p (rows n) = ap (λ t. times p (rows t)) is in
          absurd (omega (arith, more, value, same, e)))
    ])
    | inr ne ↦ waiting_none done p n b (omega arith) (omega arith) o
  ]

  -- only which of the places are done matters
  waiting_alike : (done more : List ℕ) (p n : ℕ) → ((b : ℕ) → b < n → occurs b more ≡ occurs b done) → waiting rows more p n ≡ waiting rows done p n
  waiting_alike done more p zero h = refl
  waiting_alike done more p (suc n) h =
      let rest = waiting_alike done more p n (λ b less. h b (omega (arith, less))) in
      let here : cond (occurs n more) 0 (times p (rows n)) ≡ cond (occurs n done) 0 (times p (rows n)) = ap (λ t. cond t 0 (times p (rows n))) (h n (omega arith)) in
      omega (arith, rest, here)

  -- one more place is done
  pub waiting_done : (done more : List ℕ) (b p : ℕ) → occurs b done ≡ false → occurs b more ≡ true → ((a : ℕ) → a ≢ b → occurs a more ≡ occurs a done) → (n : ℕ) → b < n → waiting rows more p n + times p (rows b) ≡ waiting rows done p n
  waiting_done done more b p away there same zero h = absurd (omega arith)
  waiting_done done more b p away there same (suc n) h = elim (cases_eq b n) [
    | inl is ↦ (
        let rest = waiting_alike done more p n (λ a less. same a (λ e. omega (arith, e, is, less))) in
        let before : cond (occurs n done) 0 (times p (rows n)) ≡ times p (rows n) = ap (λ t. cond t 0 (times p (rows n))) (subst (λ t. occurs t done ≡ false) is away) in
        let after : cond (occurs n more) 0 (times p (rows n)) ≡ 0 = ap (λ t. cond t 0 (times p (rows n))) (subst (λ t. occurs t more ≡ true) is there) in
        let row : times p (rows b) ≡ times p (rows n) = ap (λ t. times p (rows t)) is in
        omega (arith, rest, before, after, row))
    | inr ne ↦ (
        let rest = waiting_done done more b p away there same n (omega arith) in
        let here : cond (occurs n more) 0 (times p (rows n)) ≡ cond (occurs n done) 0 (times p (rows n)) = ap (λ t. cond t 0 (times p (rows n))) (same n (λ e. ne (sym e))) in
        omega (arith, rest, here))
  ]
