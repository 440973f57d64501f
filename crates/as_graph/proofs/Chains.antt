-- In a finite world without a provider cycle each AS has a rank, and ranks fall from provider to customer.
use Rattle.std.proofs.Common.{◌≡◌, inl, inr, ℕ, suc, ◌≤◌, Bool, true, false, ◌||◌, ◌==◌, cond, true≢false, Option, Some, option_map, List, [], ◌∷◌, length, refl, sym, ◌∙◌, ap, subst, arith}
use Rattle.std.proofs.lemmas.Bool.{cases_Bool, or_cases, or_parts, or_right, eqb-true, eq-eqb}
use Rattle.net_names.specs.declared.routes.Rel.{Rel}
use Rattle.net_names.specs.declared.routes.Rel.TheVariants.{Customer, Provider}
use Rattle.net_names.specs.Links.{converse}
use Rattle.net_names.specs.Numbers.{occurs, IsDistinct, last_or}
use Rattle.as_graph.specs.Hierarchy.{IsDescent, HasNoProviderCycle}
use Rattle.as_graph.proofs.Told.{cycle_from}

-- what the first is to the second is the converse of what the second is to the first
abbrev pub IsMutual : (ℕ → ℕ → Option Rel) → Type 0
IsMutual relation = (a b : ℕ) → relation b a ≡ option_map converse (relation a b)

-- links are seen alike from both ends, and join numbers of the list
pub record AreLinks (relation : ℕ → ℕ → Option Rel) (ases : List ℕ) : Type 0 where
  pub alike : IsMutual relation
  pub ends : (a b : ℕ) (r : Rel) → relation a b ≡ Some r → occurs b ases ≡ true

-- the numbers fall from each provider to its customers, and none is above the top
pub record Falls (relation : ℕ → ℕ → Option Rel) (rank : ℕ → ℕ) (top : ℕ) : Type 0 where
  pub falls : (a b : ℕ) → relation a b ≡ Some Customer → suc (rank b) ≤ rank a
  pub within : (a : ℕ) → rank a ≤ top

-- ---- lists of distinct numbers

-- the list without the first x
without : ℕ → List ℕ → List ℕ
without x [] = []
without x (y ∷ ys) = cond (y == x) ys (y ∷ without x ys)

length_without : (x : ℕ) (ys : List ℕ) → occurs x ys ≡ true → suc (length (without x ys)) ≡ length ys
unfolding without
length_without x [] h = cc
length_without x (y ∷ ys) h = by (y == x) refl (length_without x ys)
  where
    by : (b : Bool) → (y == x) ≡ b → (occurs x ys ≡ true → suc (length (without x ys)) ≡ length ys) → suc (length (cond b ys (y ∷ without x ys))) ≡ suc (length ys)
    by true is ih = refl
    by false is ih = ap suc (ih (sym (ap (λ b. b || occurs x ys) is) ∙ h))

still_occurs : (x z : ℕ) (ys : List ℕ) → (z ≡ x → ⊥) → occurs z ys ≡ true → occurs z (without x ys) ≡ true
unfolding without
still_occurs x z [] ne h = h
still_occurs x z (y ∷ ys) ne h = by (y == x) refl (still_occurs x z ys ne)
  where
    rest : (y == z) ≡ false → occurs z ys ≡ true
    rest is = sym (ap (λ b. b || occurs z ys) is) ∙ h

    by : (b : Bool) → (y == x) ≡ b → (occurs z ys ≡ true → occurs z (without x ys) ≡ true) → occurs z (cond b ys (y ∷ without x ys)) ≡ true
    by true is ih = elim (cases_Bool (y == z)) [ inl e ↦ absurd (ne (sym (eqb-true y z e) ∙ eqb-true y x is)) | inr e ↦ rest e ]
    by false is ih = elim (or_cases (y == z) (occurs z ys) h) [ inl e ↦ ap (λ b. b || occurs z (without x ys)) e | inr e ↦ or_right (y == z) _ (ih e) ]

-- distinct numbers of a list are at most as many as the list has
pub distinct_le : (xs ys : List ℕ) → IsDistinct xs → ((x : ℕ) → occurs x xs ≡ true → occurs x ys ≡ true) → length xs ≤ length ys
distinct_le [] ys d h = omega arith
distinct_le (x ∷ xs) ys d h =
    let here : occurs x ys ≡ true = h x (ap (λ b. b || occurs x xs) (eq-eqb x x refl)) in
    let rest : length xs ≤ length (without x ys) = distinct_le xs (without x ys) d.1 (λ z in_xs.
    still_occurs x z ys (λ e. true≢false (sym in_xs ∙ subst (λ t. occurs t xs ≡ false) (sym e) d.0)) (h z (or_right (x == z) _ in_xs))) in
    omega (arith, length_without x ys here)

-- ---- descents

pub descent_tail : (relation : ℕ → ℕ → Option Rel) (a : ℕ) (xs : List ℕ) → IsDescent relation (a ∷ xs) → IsDescent relation xs
descent_tail relation a [] h = tt
descent_tail relation a (b ∷ xs) h = h.1

-- the part of the list before the first x
abbrev before_first : ℕ → List ℕ → List ℕ
before_first x [] = []
before_first x (y ∷ ys) = cond (y == x) [] (y ∷ before_first x ys)

or_left_false : (a b : Bool) → (a || b) ≡ false → a ≡ false
or_left_false true b e = e
or_left_false false b e = refl

not_before : (x : ℕ) (ys : List ℕ) → occurs x (before_first x ys) ≡ false
not_before x [] = refl
not_before x (y ∷ ys) = by (y == x) refl (not_before x ys)
  where
    by : (b : Bool) → (y == x) ≡ b → occurs x (before_first x ys) ≡ false → occurs x (cond b [] (y ∷ before_first x ys)) ≡ false
    by true is ih = refl
    by false is ih = ap (λ b. b || occurs x (before_first x ys)) is ∙ ih

absent_before : (x z : ℕ) (ys : List ℕ) → occurs z ys ≡ false → occurs z (before_first x ys) ≡ false
absent_before x z [] h = refl
absent_before x z (y ∷ ys) h =
    let parts = or_parts (y == z) (occurs z ys) h in
    by (y == x) parts.0 (absent_before x z ys parts.1)
  where
    by : (b : Bool) → (y == z) ≡ false → occurs z (before_first x ys) ≡ false → occurs z (cond b [] (y ∷ before_first x ys)) ≡ false
    by true ne ih = refl
    by false ne ih = ap (λ b. b || occurs z (before_first x ys)) ne ∙ ih

distinct_before : (x : ℕ) (ys : List ℕ) → IsDistinct ys → IsDistinct (before_first x ys)
distinct_before x [] d = tt
distinct_before x (y ∷ ys) d = by (y == x) (distinct_before x ys d.1)
  where
    by : (b : Bool) → IsDistinct (before_first x ys) → IsDistinct (cond b [] (y ∷ before_first x ys))
    by true ih = tt
    by false ih = (absent_before x y ys d.0, ih)

module _ (relation : ℕ → ℕ → Option Rel) (x : ℕ) where
  -- a descent from d through x: the part before x descends, and its last is a provider of x
  closing : (d : ℕ) (ys : List ℕ) → IsDescent relation (d ∷ ys) → occurs x ys ≡ true → IsDescent relation (d ∷ before_first x ys) × (relation (last_or d (before_first x ys)) x ≡ Some Customer)
  closing d [] h o = cc
  closing d (y ∷ ys) h o = by (y == x) refl (closing y ys h.1)
    where
      by : (b : Bool) → (y == x) ≡ b → (occurs x ys ≡ true → IsDescent relation (y ∷ before_first x ys) × (relation (last_or y (before_first x ys)) x ≡ Some Customer)) → IsDescent relation (d ∷ cond b [] (y ∷ before_first x ys)) × (relation (last_or d (cond b [] (y ∷ before_first x ys))) x ≡ Some Customer)
      by true is ih = (tt, subst (λ t. relation d t ≡ Some Customer) (eqb-true y x is) h.0)
      by false is ih = let rest = ih (sym (ap (λ b. b || occurs x ys) is) ∙ o) in ((h.0, rest.0), rest.1)

module _ (relation : ℕ → ℕ → Option Rel) (mutual_links : IsMutual relation) (no_cycle : HasNoProviderCycle relation) where
  no_self : (a : ℕ) → relation a a ≡ Some Customer → ⊥
  no_self a e = let x : Some Customer ≡ Some Provider = sym e ∙ mutual_links a a ∙ ap (option_map converse) e in cc

  -- without a provider cycle, no descent meets an AS twice
  pub descent_distinct : (xs : List ℕ) → IsDescent relation xs → IsDistinct xs
  descent_distinct [] h = tt
  descent_distinct (a ∷ xs) h =
      let rest = descent_distinct xs (descent_tail relation a xs h) in
      (elim (cases_Bool (occurs a xs)) [ inl e ↦ absurd (met rest e) | inr e ↦ e ], rest)
    where
      cycle_of : (ys : List ℕ) → (occurs a ys ≡ false) → IsDistinct ys → IsDescent relation (a ∷ ys) → relation (last_or a ys) a ≡ Some Customer → ⊥
      cycle_of [] o d down close = no_self a close
      cycle_of (y ∷ ys) o d down close = no_cycle (a ∷ y ∷ ys) (cycle_from relation (a ∷ y ∷ ys) (record { two = omega arith; distinct = (o, d); descends = down; closes = close }))

      met : IsDistinct xs → occurs a xs ≡ true → ⊥
      met rest e = let c = closing relation a a xs h e in cycle_of (before_first a xs) (not_before a xs) (distinct_before a xs rest) c.0 c.1
