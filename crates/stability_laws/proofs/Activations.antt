-- Any list of activations with twice as many full pieces as there are ranks ends in a stable routing.
use Rattle.std.proofs.Common.{◌≡◌, inl, inr, ℕ, suc, ◌+◌, ◌-◌, ◌<◌, ◌≤◌, true, false, Option, Some, None, option_map, List, refl, sym, ◌∙◌, ap, subst, arith}
use Rattle.std.proofs.lemmas.Bool.{cases_eq, cases_lt}
use Rattle.net_names.specs.declared.routes.Rel.TheVariants.{Customer}
use Rattle.as_graph.proofs.Chains.{IsMutual}
use Rattle.net_names.specs.Links.{converse}
use Rattle.net_names.specs.Numbers.{occurs}
use Rattle.stability_laws.specs.declared.entry.Entry.{Entry}
use Rattle.stability_laws.specs.declared.entry.Seed.{Seed}
use Rattle.stability_laws.specs.Offers.{Setting}
use Rattle.stability_laws.specs.Stable.{IsRight, IsStable, IsLawful}
use Rattle.stability_laws.specs.Steps.{lows, IsStepWhole, IsRightUp}
use Rattle.stability_laws.specs.Runs.{IsRunBy, HasOnly, HasPieces}
use Rattle.stability_laws.proofs.Local.{one_right}
use Rattle.stability_laws.proofs.Passes.{up_keeps, up_now, whole_low, whole_low_same, whole_keeps, whole_now}
use Rattle.stability_laws.proofs.Pieces.{occurs_left, occurs_right, run_append, pieces_split, settled}

module _ (w : Setting) (lawful : (a : ℕ) → IsLawful (w.policy a)) (mutual_links : IsMutual w.relation) (alone : (a : ℕ) → w.relation a a ≡ None) (seeds : ℕ → Option Seed) (rank : ℕ → ℕ) (falls : (a b : ℕ) → w.relation a b ≡ Some Customer → suc (rank b) ≤ rank a) (height : ℕ) (within : (a : ℕ) → w.has a ≡ true → rank a < height) where
  abbrev S : Type 0
  S = ℕ → Option Entry

  abbrev Step : S → ℕ → S → Type 0
  Step f a g = IsStepWhole w seeds f a g

  abbrev OnlyAses : S → Type 0
  OnlyAses f = (a : ℕ) → w.has a ≡ false → f a ≡ None

  abbrev Low : S → ℕ → Type 0
  Low f b = IsRightUp w seeds (lows f) b

  only_step : (f : S) (a : ℕ) (g : S) → w.has a ≡ true → Step f a g → OnlyAses f → OnlyAses g
  only_step f a g here st only b out = st.others b (λ e. (let x : true ≡ false = sym here ∙ sym (ap w.has e) ∙ out in cc)) ∙ only b out

  -- first the Origin and Customer entries, from the lowest rank
  low_keep : (k : ℕ) (f : S) (a : ℕ) (g : S) → w.has a ≡ true → Step f a g → OnlyAses f → ((c : ℕ) → w.has c ≡ true → rank c < k → Low f c) → (b : ℕ) → w.has b ≡ true → rank b ≤ k → Low f b → Low g b
  low_keep k f a g here st only below b b_here le good = elim (cases_lt (rank a) k) [
    | inl less ↦ let same = whole_low_same w lawful seeds f g a st (below a here less) in subst (λ (h : S). IsRightUp w seeds h b) (λ i n. same n i) good
    | inr more ↦ elim (cases_eq b a) [
      | inl e ↦ subst (λ t. Low g t) (sym e) (up_now w lawful seeds (lows f) (lows g) a (whole_low w lawful seeds f g a st) (alone a))
      | inr ne ↦ up_keeps w lawful seeds (lows f) (lows g) a (whole_low w lawful seeds f g a st) b ne (λ linked. let less : suc (rank a) ≤ rank b = falls b a linked in absurd (omega arith)) good
    ]
  ]

  low_now : (f : S) (a : ℕ) (g : S) → w.has a ≡ true → Step f a g → OnlyAses f → Low g a
  low_now f a g here st only = up_now w lawful seeds (lows f) (lows g) a (whole_low w lawful seeds f g a st) (alone a)

  -- then all entries, from the highest rank
  record IsLow (f : S) : Type 0 where
    only : OnlyAses f
    low : (b : ℕ) → w.has b ≡ true → Low f b

  abbrev level : ℕ → ℕ
  level b = height - suc (rank b)

  is_low_step : (f : S) (a : ℕ) (g : S) → w.has a ≡ true → Step f a g → IsLow f → IsLow g
  is_low_step f a g here st i =
      let same = whole_low_same w lawful seeds f g a st (i.low a here) in
      record { only = only_step f a g here st i.only; low = λ b b_here. subst (λ (h : S). IsRightUp w seeds h b) (λ i n. same n i) (i.low b b_here) }

  all_keep : (k : ℕ) (f : S) (a : ℕ) (g : S) → w.has a ≡ true → Step f a g → IsLow f → ((c : ℕ) → w.has c ≡ true → level c < k → IsRight w seeds f c) → (b : ℕ) → w.has b ≡ true → level b ≤ k → IsRight w seeds f b → IsRight w seeds g b
  all_keep k f a g here st i below b b_here le good = elim (cases_lt (level a) k) [
    | inl less ↦
        let at_a : f a ≡ g a = one_right (w.policy a) (lawful a).ranks_offers (seeds a) _ (f a) (g a) (below a here less) st.right in
        let same : (n : ℕ) → f n ≡ g n = λ n. elim (cases_eq n a) [ inl e ↦ subst (λ t. f t ≡ g t) (sym e) at_a | inr ne ↦ sym (st.others n ne) ] in
        subst (λ (h : S). IsRight w seeds h b) (λ i n. same n i) good
    | inr more ↦
        let same = whole_low_same w lawful seeds f g a st (i.low a here) in
        elim (cases_eq b a) [
          | inl e ↦ subst (λ t. IsRight w seeds g t) (sym e) (whole_now w lawful seeds f g a st same (alone a))
          | inr ne ↦ whole_keeps w lawful seeds f g a st same b ne
              (λ linked.
              let less : suc (rank b) ≤ rank a = falls a b (mutual_links b a ∙ ap (option_map converse) linked) in
              let in_a : rank a < height = within a here in
              let in_b : rank b < height = within b b_here in
              absurd (omega arith))
              good
        ]
  ]

  all_now : (f : S) (a : ℕ) (g : S) → w.has a ≡ true → Step f a g → IsLow f → IsRight w seeds g a
  all_now f a g here st i = whole_now w lawful seeds f g a st (whole_low_same w lawful seeds f g a st (i.low a here)) (alone a)

  pub activated : (xs : List ℕ) (f g : S) → HasOnly w.has xs → HasPieces w.has (height + height) xs → IsRunBy Step xs f g → OnlyAses f → IsStable w seeds g
  activated xs f g only p run outside =
      let (ys, zs, is, first, second) = pieces_split w.has height height (height + height) xs refl p in
      let (h, up, down) = run_append Step ys zs f g (subst (λ t. IsRunBy Step t f g) is run) in
      let low = settled w.has rank Step OnlyAses Low only_step low_keep low_now height 0 ys f h (λ a there. only a (ap (occurs a) is ∙ occurs_left a ys zs there)) first up outside (λ c c_here less. absurd (omega arith)) in
      let is_low : IsLow h = record { only = low.0; low = λ b b_here. low.1 b b_here (let in_b : rank b < height = within b b_here in omega arith) } in
      let all = settled w.has level Step IsLow (λ f b. IsRight w seeds f b) is_low_step all_keep all_now height 0 zs h g (λ a there. only a (ap (occurs a) is ∙ occurs_right a ys zs there)) second down is_low (λ c c_here less. absurd (omega arith)) in
      record { only_ases = all.0.only; right = λ b b_here. all.1 b b_here (let in_b : rank b < height = within b b_here in omega arith) }
