-- What can be decided of numbers, and whether ASes hold what they are right with.
use Rattle.std.proofs.Common.{◌≡◌, ◌⊎◌, inl, inr, ℕ, zero, suc, ◌<◌, ◌≤◌, max, true, false, true≢false, Option, Some, None, is_some, List, [], ◌∷◌, refl, sym, ◌∙◌, subst, arith}
use Rattle.std.specs.FinMap as map
use Rattle.std.specs.Ordering.{nat_cmp}
use Rattle.std.proofs.lemmas.Bool.{cases_Bool, cases_eq, cases_lt}
use Rattle.std.proofs.lemmas.Cmp.{nat_cmp_total}
use Rattle.std.proofs.lemmas.Map.Lookups.{exact_unsigned}
use Rattle.stability_laws.specs.declared.entry.Entry.{Entry}
use Rattle.stability_laws.specs.declared.entry.Seed.{Seed}
use Rattle.stability_laws.specs.Offers.{Setting}
use Rattle.stability_laws.specs.Stable.{IsRightWith, IsStable}
use Rattle.stability_laws.proofs.KeyLists.{keys_listed}
use Rattle.leak_round.specs.Entries.{StandsIn}
use Rattle.message_sim.proofs.Going.{same_message}
use Rattle.answers_exist.proofs.Listing.{slot_stands}

-- it holds or it doesn't
abbrev pub Decided : Type 0 → Type 0
Decided P = P ⊎ (P → ⊥)

-- the first number of which it doesn't hold
pub record IsFirstNot (P : ℕ → Type 0) (n : ℕ) : Type 0 where
  pub fails : P n → ⊥
  pub before : (k : ℕ) → k < n → P k

module _ (P : ℕ → Type 0) (decide : (n : ℕ) → Decided (P n)) where
  pub all_below : (n : ℕ) → ((k : ℕ) → k < n → P k) ⊎ ((m : ℕ) × (m < n) × IsFirstNot P m)
  all_below zero = inl (λ k less. absurd (omega (arith, less)))
  all_below (suc n) = elim (all_below n) [
    | inr (m, less, is) ↦ inr (m, omega (arith, less), is)
    | inl all ↦ elim (decide n) [
      | inr fails ↦ inr (n, omega arith, record { fails = fails; before = all })
      | inl holds ↦ inl (λ k less. elim (cases_eq k n) [ inl e ↦ subst P (sym e) holds | inr ne ↦ all k (omega (arith, less, ne)) ])
    ]
  ]

  -- where it holds from some number on, it holds of all or fails first somewhere
  pub all_or_first : (bound : ℕ) → ((k : ℕ) → bound ≤ k → P k) → ((k : ℕ) → P k) ⊎ ((m : ℕ) × IsFirstNot P m)
  all_or_first bound above = elim (all_below bound) [
    | inr (m, less, is) ↦ inr (m, is)
    | inl all ↦ inl (λ k. elim (cases_lt k bound) [ inl less ↦ all k less | inr more ↦ above k more ])
  ]

-- ---- a bound

pub bound_of : List ℕ → ℕ
bound_of [] = 0
bound_of (x ∷ xs) = max (suc x) (bound_of xs)

pub below_bound : (xs : List ℕ) (a : ℕ) → StandsIn a xs → a < bound_of xs
unfolding bound_of
below_bound [] a h = absurd h
below_bound (x ∷ xs) a (inl e) = omega (arith, e)
below_bound (x ∷ xs) a (inr h) = let less = below_bound xs a h in omega (arith, less)

is_none : {X : Type 0} (o : Option X) → is_some o ≡ false → o ≡ None
is_none None e = refl
is_none (Some x) e = cc

-- a map has nothing above its keys
pub nothing_above : {X : Type 0} (m : map.FinMap nat_cmp X) (a : ℕ) → bound_of (map.keys m) ≤ a → map.get m a ≡ None
nothing_above m a above = elim (cases_Bool (is_some (map.get m a))) [
  | inr out ↦ is_none (map.get m a) out
  | inl there ↦
      let (place, is) = (keys_listed nat_cmp_total exact_unsigned m).whole a there in
      let less = below_bound (map.keys m) a (slot_stands (map.keys m) place a is) in
      absurd (omega (arith, less, above))
]

-- ---- who is right

module _ (w : Setting) (seeds : ℕ → Option Seed) (f : ℕ → Option Entry) (answers : (a : ℕ) → (held : Option Entry) × IsRightWith w seeds f a held × ((other : Option Entry) → IsRightWith w seeds f a other → other ≡ held)) where
  -- an AS is right with it, or it is no AS and this is nothing
  abbrev pub IsRightHere : ℕ → Option Entry → Type 0
  IsRightHere a held = (w.has a ≡ true → IsRightWith w seeds f a held) × (w.has a ≡ false → held ≡ None)

  pub right_or_not : (a : ℕ) → Decided (IsRightHere a (f a))
  right_or_not a = elim (cases_Bool (w.has a)) [
    | inl here ↦
        let (held, right, only) = answers a in
        elim (same_message (f a) held) [
          | inl same ↦ inl (λ there. subst (λ t. IsRightWith w seeds f a t) (sym same) right, λ out. absurd (true≢false (sym here ∙ out)))
          | inr other ↦ inr (λ h. other (only (f a) (h.0 here)))
        ]
    | inr out ↦ elim (same_message (f a) None) [
      | inl same ↦ inl (λ here. absurd (true≢false (sym here ∙ out)), λ no_as. same)
      | inr other ↦ inr (λ h. other (h.1 out))
    ]
  ]

  pub some_right : (a : ℕ) → (held : Option Entry) × IsRightHere a held
  some_right a = elim (cases_Bool (w.has a)) [
    | inl here ↦ let (held, right, only) = answers a in (held, (λ there. right, λ out. absurd (true≢false (sym here ∙ out))))
    | inr out ↦ (None, (λ here. absurd (true≢false (sym here ∙ out)), λ no_as. refl))
  ]

  -- where nobody is or holds anything from some number on, all are right or one is the first who isn't
  pub all_right_or_first : (bound : ℕ) → ((a : ℕ) → bound ≤ a → (w.has a ≡ false) × (f a ≡ None)) → ((a : ℕ) → IsRightHere a (f a)) ⊎ ((a : ℕ) × IsFirstNot (λ a. IsRightHere a (f a)) a)
  all_right_or_first bound above = all_or_first (λ a. IsRightHere a (f a)) right_or_not bound (λ a le. (λ here. absurd (true≢false (sym here ∙ (above a le).0)), λ out. (above a le).1))

  pub stable_or_not : (bound : ℕ) → ((a : ℕ) → bound ≤ a → (w.has a ≡ false) × (f a ≡ None)) → Decided (IsStable w seeds f)
  stable_or_not bound above = elim (all_right_or_first bound above) [
    | inl all ↦ inl (record { only_ases = λ a out. (all a).1 out; right = λ a here. (all a).0 here })
    | inr (a, is) ↦ inr (λ h. is.fails (λ here. h.right a here, λ out. h.only_ases a out))
  ]
