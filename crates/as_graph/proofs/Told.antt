-- Chains and provider cycles by recursion over the list, as proofs go through them.
use Rattle.std.proofs.Common.{◌≡◌, ℕ, zero, suc, ◌+◌, ◌<◌, ◌≤◌, Option, Some, List, [], ◌∷◌, length, get_or, refl, ap, arith, subst}
use Rattle.std.specs.Prelude.{slice_get}
use Rattle.net_names.specs.declared.routes.Rel.{Rel}
use Rattle.net_names.specs.declared.routes.Rel.TheVariants.{Customer}
use Rattle.net_names.specs.Numbers.{IsDistinct, last_or}
use Rattle.net_names.proofs.Distinct.{apart_from_distinct, distinct_from_apart}
use Rattle.as_graph.specs.Hierarchy.{IsDescent, IsChainFrom, IsProviderCycle}

module _ (rel : ℕ → ℕ → Option Rel) where
  -- each number of the list is a provider of the next, by places
  abbrev Steps : List ℕ → Type 0
  Steps xs = (i : ℕ) → i + 1 < length xs → rel (get_or xs i 0) (get_or xs (i + 1) 0) ≡ Some Customer

  step_rest : (a b : ℕ) (rest : List ℕ) → Steps (a ∷ b ∷ rest) → Steps (b ∷ rest)
  step_rest a b rest h i less =
      let e : suc i + 1 ≡ suc (i + 1) = omega arith in
      subst (λ k. rel (get_or (b ∷ rest) i 0) (get_or (a ∷ b ∷ rest) k 0) ≡ Some Customer) e (h (suc i) (omega (arith, less)))

  descent_of : (xs : List ℕ) → Steps xs → IsDescent rel xs
  descent_of [] h = tt
  descent_of (a ∷ []) h = tt
  descent_of (a ∷ b ∷ rest) h = (h 0 (omega arith), descent_of (b ∷ rest) (step_rest a b rest h))

  steps_of : (xs : List ℕ) → IsDescent rel xs → Steps xs
  steps_of [] h i less = absurd (omega (arith, less))
  steps_of (a ∷ []) h i less = absurd (omega (arith, less))
  steps_of (a ∷ b ∷ rest) h zero less = h.0
  steps_of (a ∷ b ∷ rest) h (suc i) less =
      let e : suc (i + 1) ≡ suc i + 1 = omega arith in
      subst (λ k. rel (get_or (b ∷ rest) i 0) (get_or (a ∷ b ∷ rest) k 0) ≡ Some Customer) e (steps_of (b ∷ rest) h.1 i (omega (arith, less)))

  -- a chain from a
  pub record IsChainTold (a : ℕ) (xs : List ℕ) : Type 0 where
    pub starts : (rest : List ℕ) × (xs ≡ a ∷ rest)
    pub distinct : IsDistinct xs
    pub descends : IsDescent rel xs

  begins : (a : ℕ) (xs : List ℕ) → slice_get xs 0 ≡ Some a → (rest : List ℕ) × (xs ≡ a ∷ rest)
  begins a [] e = cc
  begins a (x ∷ xs) e = (xs, ap (λ t. t ∷ xs) (let k : x ≡ a = cc in k))

  pub chain_told : (a : ℕ) (xs : List ℕ) → IsChainFrom rel a xs → IsChainTold a xs
  chain_told a xs c = record { starts = begins a xs c.starts; distinct = distinct_from_apart xs c.distinct; descends = descent_of xs c.steps }

  pub chain_from : (a : ℕ) (rest : List ℕ) → IsDistinct (a ∷ rest) → IsDescent rel (a ∷ rest) → IsChainFrom rel a (a ∷ rest)
  chain_from a rest d h = record { starts = refl; distinct = apart_from_distinct (a ∷ rest) d; steps = steps_of (a ∷ rest) h }

  -- a provider cycle
  pub record IsCycleTold (xs : List ℕ) : Type 0 where
    pub two : 2 ≤ length xs
    pub distinct : IsDistinct xs
    pub descends : IsDescent rel xs
    pub closes : rel (last_or 0 xs) (get_or xs 0 0) ≡ Some Customer

  pub cycle_told : (xs : List ℕ) → IsProviderCycle rel xs → IsCycleTold xs
  cycle_told xs c = record { two = c.two; distinct = distinct_from_apart xs c.way.distinct; descends = descent_of xs c.way.steps; closes = c.closes }

  pub cycle_from : (xs : List ℕ) → IsCycleTold xs → IsProviderCycle rel xs
  cycle_from [] c = let two : 2 ≤ 0 = c.two in absurd (omega arith)
  cycle_from (a ∷ rest) c = record { two = c.two; way = chain_from a rest c.distinct c.descends; closes = c.closes }
