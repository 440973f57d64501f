-- Of the offers of finitely many neighbours there is a best one, or none.
use Rattle.std.proofs.Common.{◌≡◌, ◌≢◌, ◌⊎◌, inl, inr, ℕ, true, false, ◌==◌, IsTrue, Option, Some, None, List, [], ◌∷◌, refl, sym, ◌∙◌, subst}
use Rattle.std.proofs.lemmas.Bool.{cases_eq, cases_Bool, or_cases, eqb-true}
use Rattle.policy_laws.specs.Policy.{Policy, RanksOffers}
use Rattle.net_names.specs.Numbers.{occurs}
use Rattle.stability_laws.specs.declared.entry.Entry.{Entry}
use Rattle.stability_laws.specs.declared.entry.Seed.{Seed}
use Rattle.stability_laws.specs.Entries.{seed_entry}
use Rattle.stability_laws.specs.Offers.{Offer}
use Rattle.stability_laws.specs.Stable.{IsRightGiven}

module _ (p : Policy) (ranks : RanksOffers p) (offers : ℕ → Option Offer) (own_views : (n : ℕ) (o : Offer) → offers n ≡ Some o → o.view.neighbour ≡ n) where
  -- n makes this offer, and it is before that of every other AS of the list
  record IsBestOf (xs : List ℕ) (n : ℕ) (o : Offer) : Type 0 where
    made : offers n ≡ Some o
    first : (m : ℕ) (q : Offer) → occurs m xs ≡ true → offers m ≡ Some q → m ≢ n → IsTrue (p.before o.view q.view)

  BestOf : List ℕ → Type 0
  BestOf xs = ((n : ℕ) → occurs n xs ≡ true → offers n ≡ None) ⊎ ((n : ℕ) × (o : Offer) × IsBestOf xs n o)

  one_more : (x : ℕ) (xs : List ℕ) (new : Option Offer) → offers x ≡ new → BestOf xs → BestOf (x ∷ xs)
  unfolding BestOf
  one_more x xs None is (inl none) = inl (λ n h. elim (or_cases (x == n) (occurs n xs) h) [ inl e ↦ subst (λ t. offers t ≡ None) (eqb-true x n e) is | inr e ↦ none n e ])
  one_more x xs None is (inr (n, o, b)) = inr (
    n,
    o,
    record {
      made = b.made;
      first = λ m q h made ne. elim (or_cases (x == m) (occurs m xs) h) [
        | inl e ↦ (let a : offers m ≡ None = subst (λ t. offers t ≡ None) (eqb-true x m e) is in cc)
        | inr e ↦ b.first m q e made ne
      ];
    },
  )
  one_more x xs (Some new) is (inl none) = inr (
    x,
    new,
    record {
      made = is;
      first = λ m q h made ne. elim (or_cases (x == m) (occurs m xs) h) [
        | inl e ↦ absurd (ne (sym (eqb-true x m e)))
        | inr e ↦ (let a : offers m ≡ None = none m e in cc)
      ];
    },
  )
  one_more x xs (Some new) is (inr (n, o, b)) = elim (cases_eq x n) [
    | inl e ↦ inr (n, o, record { made = b.made; first = λ m q h made ne. elim (or_cases (x == m) (occurs m xs) h) [ inl f ↦ absurd (ne (sym (eqb-true x m f) ∙ e)) | inr f ↦ b.first m q f made ne ] })
    | inr ne ↦ elim (ranks.total o.view new.view (λ t. ne (sym (own_views x new is) ∙ sym t ∙ own_views n o b.made))) [
      | inl first ↦ inr (
        n,
        o,
        record {
          made = b.made;
          first = λ m q h made ne'. elim (or_cases (x == m) (occurs m xs) h) [
            | inl f ↦ (let a : offers m ≡ Some new = subst (λ t. offers t ≡ Some new) (eqb-true x m f) is in let t : new ≡ q = cc in subst (λ (q : Offer). IsTrue (p.before o.view q.view)) t first)
            | inr f ↦ b.first m q f made ne'
          ];
        },
      )
      | inr first ↦ inr (
        x,
        new,
        record {
          made = is;
          first = λ m q h made ne'. elim (or_cases (x == m) (occurs m xs) h) [
            | inl f ↦ absurd (ne' (sym (eqb-true x m f)))
            | inr f ↦ elim (cases_eq m n) [
              | inl g ↦ (let a : offers n ≡ Some q = subst (λ t. offers t ≡ Some q) g made in let a' : offers n ≡ Some o = b.made in let t : o ≡ q = cc in subst (λ (q : Offer). IsTrue (p.before new.view q.view)) t first)
              | inr g ↦ ranks.transitive new.view o.view q.view first (b.first m q f made g)
            ]
          ];
        },
      )
    ]
  ]

  best_of : (xs : List ℕ) → BestOf xs
  unfolding BestOf
  best_of [] = inl (λ n h. let x : false ≡ true = h in cc)
  best_of (x ∷ xs) = one_more x xs (offers x) refl (best_of xs)

  -- there is an answer
  pub some_right : (xs : List ℕ) → ((n : ℕ) → occurs n xs ≡ false → offers n ≡ None) → (seed : Option Seed) → (held : Option Entry) × IsRightGiven p seed offers held
  unfolding BestOf
  some_right xs others (Some s) = (Some (seed_entry s), refl)
  some_right xs others None = by (best_of xs)
    where
      outside : (m : ℕ) → (q : Offer) → offers m ≡ Some q → occurs m xs ≡ true
      outside m q made = elim (cases_Bool (occurs m xs)) [ inl e ↦ e | inr e ↦ (let a : offers m ≡ None = others m e in cc) ]

      by : BestOf xs → (held : Option Entry) × IsRightGiven p None offers held
      by (inl none) = (None, λ n. elim (cases_Bool (occurs n xs)) [ inl e ↦ none n e | inr e ↦ others n e ])
      by (inr (n, o, b)) = (Some o.entry, (n, o, record { made = b.made; first = λ m q made ne. b.first m q (outside m q made) made ne }, refl))
