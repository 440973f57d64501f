-- What of a list is meant can be listed, each once.
use Rattle.std.proofs.Common.{◌≡◌, ◌≢◌, ◌⊎◌, inl, inr, ℕ, zero, suc, ◌≤◌, true, true≢false, slice_get, ◌==◌, List, [], ◌∷◌, ◌++◌, Some, refl, sym, subst, arith}
use Rattle.std.proofs.lemmas.Bool.{cases_eq, or_cases, eqb-true}
use Rattle.net_names.specs.Numbers.{occurs}
use Rattle.net_names.specs.Prefixes.{PrefixValue}
use Rattle.net_names.specs.declared.addresses.Family.{Family}
use Rattle.net_names.specs.declared.addresses.Family.TheVariants as family
use Rattle.leak_round.specs.Entries.{AreApart, StandsIn}

-- ---- telling apart

-- two of the type are the same or differ
abbrev pub AreTold : Type 0 → Type 0
AreTold X = (x y : X) → (x ≡ y) ⊎ (x ≢ y)

pairs_told : {X Y : Type 0} → AreTold X → AreTold Y → AreTold (X × Y)
pairs_told one other x y = elim (one x.0 y.0) [
  | inl e ↦ elim (other x.1 y.1) [
    | inl f ↦ inl (λ i. (e i, f i))
    | inr ne ↦ inr (λ h. ne (λ i. (h i).1))
  ]
  | inr ne ↦ inr (λ h. ne (λ i. (h i).0))
]

families_told : AreTold Family
families_told family.V4 family.V4 = inl refl
families_told family.V6 family.V6 = inl refl
families_told c d = inr (λ e. cc)

prefixes_told : AreTold PrefixValue
prefixes_told x y = elim (families_told x.family y.family) [
  | inl c ↦ elim (cases_eq x.addr y.addr) [
    | inl p ↦ elim (cases_eq x.len y.len) [
      | inl n ↦ inl (λ i. record { family = c i; addr = p i; len = n i })
      | inr ne ↦ inr (λ h. ne (λ i. (h i).len))
    ]
    | inr ne ↦ inr (λ h. ne (λ i. (h i).addr))
  ]
  | inr ne ↦ inr (λ h. ne (λ i. (h i).family))
]

pub triples_told : AreTold (ℕ × (PrefixValue × ℕ))
triples_told = pairs_told cases_eq (pairs_told prefixes_told cases_eq)

-- ---- lists

pub slot_stands : {X : Type 0} (xs : List X) (k : ℕ) (x : X) → slice_get xs k ≡ Some x → StandsIn x xs
slot_stands [] k x h = cc
slot_stands (y ∷ ys) zero x h = inl (let t : x ≡ y = cc in t)
slot_stands (y ∷ ys) (suc k) x h = inr (slot_stands ys k x h)

module _ {X : Type 0} where
  pub stands_left : (x : X) (xs ys : List X) → StandsIn x xs → StandsIn x (xs ++ ys)
  stands_left x [] ys h = absurd h
  stands_left x (y ∷ xs) ys (inl e) = inl e
  stands_left x (y ∷ xs) ys (inr h) = inr (stands_left x xs ys h)

  pub stands_right : (x : X) (xs ys : List X) → StandsIn x ys → StandsIn x (xs ++ ys)
  stands_right x [] ys h = h
  stands_right x (y ∷ xs) ys h = inr (stands_right x xs ys h)

  pub stands_or_not : AreTold X → (x : X) (xs : List X) → StandsIn x xs ⊎ (StandsIn x xs → ⊥)
  stands_or_not told x [] = inr (λ h. h)
  stands_or_not told x (y ∷ ys) = elim (told x y) [
    | inl e ↦ inl (inl e)
    | inr ne ↦ elim (stands_or_not told x ys) [ inl h ↦ inl (inr h) | inr out ↦ inr (λ h. elim h [ inl e ↦ ne e | inr later ↦ out later ]) ]
  ]

  -- what is meant of a list, each once
  pub record IsListed (P : X → Type 0) (xs keys : List X) : Type 0 where
    pub apart : AreApart keys
    pub meant : (x : X) → StandsIn x keys → P x
    pub all : (x : X) → StandsIn x xs → P x → StandsIn x keys

  pub listed : AreTold X → (P : X → Type 0) → ((x : X) → P x ⊎ (P x → ⊥)) → (xs : List X) → (keys : List X) × IsListed P xs keys
  listed told P decide [] = ([], record { apart = tt; meant = λ x h. absurd h; all = λ x h p. h })
  listed told P decide (y ∷ ys) =
      let (keys, is) = listed told P decide ys in
      elim (decide y) [
        | inr not_meant ↦ (keys, record { apart = is.apart; meant = is.meant; all = λ x h p. elim h [ inl e ↦ absurd (not_meant (subst P e p)) | inr later ↦ is.all x later p ] })
        | inl is_meant ↦ elim (stands_or_not told y keys) [
          | inl there ↦ (keys, record { apart = is.apart; meant = is.meant; all = λ x h p. elim h [ inl e ↦ subst (λ t. StandsIn t keys) (sym e) there | inr later ↦ is.all x later p ] })
          | inr new ↦ (
            y ∷ keys,
            record {
              apart = (new, is.apart);
              meant = λ x h. elim h [ inl e ↦ subst P (sym e) is_meant | inr later ↦ is.meant x later ];
              all = λ x h p. elim h [ inl e ↦ inl e | inr later ↦ inr (is.all x later p) ];
            },
          )
        ]
      ]

-- all that a list gives
pub each : {X Y : Type 0} → (X → List Y) → List X → List Y
each f [] = []
each f (x ∷ xs) = f x ++ each f xs

pub stands_each : {X Y : Type 0} (f : X → List Y) (xs : List X) (x : X) (y : Y) → StandsIn x xs → StandsIn y (f x) → StandsIn y (each f xs)
unfolding each
stands_each f [] x y h k = absurd h
stands_each f (z ∷ zs) x y (inl e) k = stands_left y (f z) (each f zs) (subst (λ t. StandsIn y (f t)) e k)
stands_each f (z ∷ zs) x y (inr h) k = stands_right y (f z) (each f zs) (stands_each f zs x y h k)

pub upto : ℕ → List ℕ
upto zero = []
upto (suc n) = suc n ∷ upto n

pub stands_upto : (n k : ℕ) → 1 ≤ k → k ≤ n → StandsIn k (upto n)
unfolding upto
stands_upto zero k low high = absurd (omega (arith, low, high))
stands_upto (suc n) k low high = elim (cases_eq k (suc n)) [ inl e ↦ inl e | inr ne ↦ inr (stands_upto n k low (omega (arith, high, ne))) ]

pub occurs_stands : (a : ℕ) (xs : List ℕ) → occurs a xs ≡ true → StandsIn a xs
occurs_stands a [] h = absurd (true≢false (sym h))
occurs_stands a (x ∷ xs) h = elim (or_cases (x == a) (occurs a xs) h) [ inl e ↦ inl (sym (eqb-true x a e)) | inr e ↦ inr (occurs_stands a xs e) ]
