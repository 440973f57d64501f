-- Rows of some trials of a line, from the first on, are a front of the rows of all.
use Rattle.std.proofs.Common.{◌≡◌, ℕ, zero, suc, List, [], ◌∷◌, ◌++◌, map, take, refl, sym, ap, subst, ◌∙◌, append_assoc}
use Rattle.std.specs.List.{All, flat_map}
use Rattle.std.specs.Ordering.{nat_cmp}
use Rattle.std.specs.FinSet as set
use Rattle.std.proofs.lemmas.List.Elements.{All-head, All-tail}
use Rattle.policy_kinds.specs.declared.kind.Kind.{Kind}
use Rattle.sweep.specs.Swept.{IsBegun, IsSwept, trial_kinds, trial_text, trials_in}
use Rattle.sweep.specs.declared.sweeps.Sweep.{Sweep}
use Rattle.sweep.specs.declared.trial.Fate.{Fate}

module _ (ases : set.FinSet nat_cmp) (announcers : List ℕ) (AreRight : (ℕ → Kind) → (Fate → ℕ) → Type 0) (kinds : ℕ → Kind) (line : Sweep)
    (one : (f : ℕ → Kind) (m n : Fate → ℕ) → AreRight f m → AreRight f n → (fate : Fate) → m fate ≡ n fate) where
  abbrev Run : Type 0
  Run = (ℕ × ℕ) × (Fate → ℕ)

  abbrev IsRun : Run → Type 0
  IsRun x = AreRight (trial_kinds ases kinds line x.0) x.1

  abbrev rows_of : List Run → List ℕ
  rows_of = flat_map (λ (x : Run). trial_text announcers x.0.0 x.0.1 x.1)

  head_same : (a b : ℕ × ℕ) (xs ys : List (ℕ × ℕ)) → a ∷ xs ≡ b ∷ ys → a ≡ b
  head_same a b xs ys e = cc

  tail_same : (a b : ℕ × ℕ) (xs ys : List (ℕ × ℕ)) → a ∷ xs ≡ b ∷ ys → xs ≡ ys
  tail_same a b xs ys e = cc

  -- two right runs of one trial have one text
  same_rows : (x y : Run) → x.0 ≡ y.0 → IsRun x → IsRun y → trial_text announcers x.0.0 x.0.1 x.1 ≡ trial_text announcers y.0.0 y.0.1 y.1
  same_rows (t, m) (u, n) e right other = by u n (sym e) other
    where
      by : (v : ℕ × ℕ) (k : Fate → ℕ) → v ≡ t → IsRun (v, k) → trial_text announcers t.0 t.1 m ≡ trial_text announcers v.0 v.1 k
      by v k is have = (λ i. trial_text announcers (sym is i).0 (sym is i).1 (λ fate. one (trial_kinds ases kinds line t) m k right (subst (λ w. AreRight (trial_kinds ases kinds line w) k) is have) fate i))

  front : (trials : List (ℕ × ℕ)) (n : ℕ) (some all : List Run) → map (λ (x : Run). x.0) some ≡ take n trials → map (λ (x : Run). x.0) all ≡ trials → All IsRun some → All IsRun all
      → (rest : List ℕ) × (rows_of all ≡ rows_of some ++ rest)
  front trials n [] all e f right others = (rows_of all, refl)
  front [] zero (x ∷ some) all e f right others = cc
  front [] (suc n) (x ∷ some) all e f right others = cc
  front (t ∷ trials) zero (x ∷ some) all e f right others = cc
  front (t ∷ trials) (suc n) (x ∷ some) [] e f right others = cc
  front (t ∷ trials) (suc n) (x ∷ some) (y ∷ all) e f right others =
      let (rest, is) = front trials n some all (tail_same x.0 t _ _ e) (tail_same y.0 t _ _ f) (All-tail IsRun x some right) (All-tail IsRun y all others) in
      let here = same_rows x y (head_same x.0 t _ _ e ∙ sym (head_same y.0 t _ _ f)) (All-head IsRun x some right) (All-head IsRun y all others) in
      (rest, (λ i. sym here i ++ is i) ∙ sym (append_assoc (trial_text announcers x.0.0 x.0.1 x.1) (rows_of some) rest))

  -- so the beginning of a text is a front of it
  pub begun_is_front : (begun text : List ℕ) → IsBegun ases announcers AreRight kinds line begun → IsSwept ases announcers AreRight kinds line text → (rest : List ℕ) × (text ≡ begun ++ rest)
  begun_is_front begun text (count, rows) swept =
      let (rest, is) = front (trials_in line) count rows.runs swept.runs rows.each swept.each rows.right swept.right in
      (rest, swept.rows ∙ is ∙ ap (λ t. t ++ rest) (sym rows.rows))
