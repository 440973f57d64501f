-- In a finite world without a provider cycle each AS has one rank, and ranks fall from provider to customer.
use Rattle.std.proofs.Common.{◌≡◌, ◌⊎◌, inl, inr, ℕ, zero, suc, ◌≤◌, max, true, ◌==◌, Option, Some, None, List, [], ◌∷◌, length, refl, sym, ◌∙◌, ap, subst, arith}
use Rattle.std.proofs.lemmas.Bool.{cases_lt, or_cases, eqb-true}
use Rattle.net_names.specs.declared.routes.Rel.{Rel}
use Rattle.net_names.specs.declared.routes.Rel.TheVariants.{Customer, Peer, Provider}
use Rattle.net_names.specs.Numbers.{occurs}
use Rattle.as_graph.specs.Hierarchy.{IsDescent, HasNoProviderCycle, IsRank}
use Rattle.as_graph.proofs.Told.{chain_told, chain_from}
use Rattle.as_graph.proofs.Chains.{AreLinks, Falls, distinct_le, descent_tail, descent_distinct}

-- the greatest number that f gives to one of the list
greatest : (ℕ → ℕ) → List ℕ → ℕ
greatest f [] = 0
greatest f (x ∷ xs) = max (f x) (greatest f xs)

greatest_le : (f : ℕ → ℕ) (xs : List ℕ) (x : ℕ) → occurs x xs ≡ true → f x ≤ greatest f xs
unfolding greatest
greatest_le f [] x h = cc
greatest_le f (y ∷ ys) x h = elim (or_cases (y == x) (occurs x ys) h) [
  | inl e ↦ let is : f y ≡ f x = ap f (eqb-true y x e) in omega arith
  | inr e ↦ let rest : f x ≤ greatest f ys = greatest_le f ys x e in omega arith
]

greatest_is : (f : ℕ → ℕ) (xs : List ℕ) → (greatest f xs ≡ 0) ⊎ ((x : ℕ) × (greatest f xs ≡ f x))
unfolding greatest
greatest_is f [] = inl refl
greatest_is f (y ∷ ys) = elim (cases_lt (f y) (greatest f ys)) [
  | inl less ↦ elim (greatest_is f ys) [ inl e ↦ inl (omega arith) | inr (x, e) ↦ inr (x, omega arith) ]
  | inr more ↦ inr (y, omega arith)
]

-- one more than the number, at a customer
above : Option Rel → ℕ → ℕ
above None n = 0
above (Some Customer) n = suc n
above (Some Peer) n = 0
above (Some Provider) n = 0

-- how many steps down from a there are, up to a limit
steps_down : (ℕ → ℕ → Option Rel) → List ℕ → ℕ → ℕ → ℕ
steps_down relation ases zero a = 0
steps_down relation ases (suc k) a = greatest (λ b. above (relation a b) (steps_down relation ases k b)) ases

-- so many steps down there are
walk : (relation : ℕ → ℕ → Option Rel) (ases : List ℕ) (k a : ℕ) → (xs : List ℕ) × IsDescent relation (a ∷ xs) × (length xs ≡ steps_down relation ases k a)
unfolding steps_down above
walk relation ases zero a = ([], tt, refl)
walk relation ases (suc k) a = by (greatest_is (λ b. above (relation a b) (steps_down relation ases k b)) ases) (walk relation ases k)
  where
    down : (x : ℕ) (r : Option Rel) → relation a x ≡ r → (n : ℕ) → n ≡ above r (steps_down relation ases k x) → ((xs : List ℕ) × IsDescent relation (x ∷ xs) × (length xs ≡ steps_down relation ases k x)) → (xs : List ℕ) × IsDescent relation (a ∷ xs) × (length xs ≡ n)
    down x None is n e w = ([], tt, sym e)
    down x (Some Customer) is n e (ys, d, l) = (x ∷ ys, (is, d), ap suc l ∙ sym e)
    down x (Some Peer) is n e w = ([], tt, sym e)
    down x (Some Provider) is n e w = ([], tt, sym e)

    by : ((steps_down relation ases (suc k) a ≡ 0) ⊎ ((x : ℕ) × (steps_down relation ases (suc k) a ≡ above (relation a x) (steps_down relation ases k x)))) → ((x : ℕ) → (xs : List ℕ) × IsDescent relation (x ∷ xs) × (length xs ≡ steps_down relation ases k x)) → (xs : List ℕ) × IsDescent relation (a ∷ xs) × (length xs ≡ steps_down relation ases (suc k) a)
    by (inl e) ih = ([], tt, sym e)
    by (inr (x, e)) ih = down x (relation a x) refl _ e (ih x)

module _ (relation : ℕ → ℕ → Option Rel) (ases : List ℕ) (links : AreLinks relation ases) where
  -- no more steps down there are
  no_longer : (k a : ℕ) (xs : List ℕ) → IsDescent relation (a ∷ xs) → length xs ≤ k → length xs ≤ steps_down relation ases k a
  unfolding steps_down above
  no_longer zero a xs d h = h
  no_longer (suc k) a [] d h = omega arith
  no_longer (suc k) a (b ∷ ys) d h =
      let rest : length ys ≤ steps_down relation ases k b = no_longer k b ys d.1 (omega arith) in
      let this = greatest_le (λ c. above (relation a c) (steps_down relation ases k c)) ases b (links.ends a b Customer d.0) in
      let at : suc (steps_down relation ases k b) ≤ greatest (λ c. above (relation a c) (steps_down relation ases k c)) ases = subst (λ r. above r (steps_down relation ases k b) ≤ greatest (λ c. above (relation a c) (steps_down relation ases k c)) ases) d.0 this in
      omega arith

  all_there : (a : ℕ) (xs : List ℕ) → IsDescent relation (a ∷ xs) → (z : ℕ) → occurs z xs ≡ true → occurs z ases ≡ true
  all_there a [] d z h = cc
  all_there a (b ∷ ys) d z h = elim (or_cases (b == z) (occurs z ys) h) [
    | inl e ↦ subst (λ t. occurs t ases ≡ true) (eqb-true b z e) (links.ends a b Customer d.0)
    | inr e ↦ all_there b ys d.1 z e
  ]

  module _ (no_cycle : HasNoProviderCycle relation) where
    few : (a : ℕ) (xs : List ℕ) → IsDescent relation (a ∷ xs) → length xs ≤ length ases
    few a xs d = distinct_le xs ases (descent_distinct relation links.alike no_cycle xs (descent_tail relation a xs d)) (all_there a xs d)

    -- each AS has a rank
    pub rank_of : ℕ → ℕ
    rank_of a = steps_down relation ases (length ases) a

    pub rank_of-IsRank : (a : ℕ) → IsRank relation a (rank_of a)
    unfolding rank_of
    rank_of-IsRank a =
        let (xs, d, l) = walk relation ases (length ases) a in
        record {
          longest = (a ∷ xs, chain_from relation a xs (descent_distinct relation links.alike no_cycle (a ∷ xs) d) d, omega arith);
          most = λ ys chain. let c = chain_told relation a ys chain in
              let d' : IsDescent relation (a ∷ c.starts.0) = subst (IsDescent relation) c.starts.1 c.descends in
              let n : length c.starts.0 ≤ steps_down relation ases (length ases) a = no_longer (length ases) a c.starts.0 d' (few a c.starts.0 d') in
              let m : length ys ≡ suc (length c.starts.0) = ap length c.starts.1 in
              omega arith;
        }

    -- ranks fall from a provider to its customers
    pub ranks_fall : (rank : ℕ → ℕ) → ((a : ℕ) → IsRank relation a (rank a)) → Falls relation rank (length ases)
    ranks_fall rank is = record { falls = falls; within = within }
      where
        falls : (a b : ℕ) → relation a b ≡ Some Customer → suc (rank b) ≤ rank a
        falls a b linked =
            let (xs, chain, l) = (is b).longest in
            let c = chain_told relation b xs chain in
            let rest : List ℕ = c.starts.0 in
            let d : IsDescent relation (b ∷ rest) = subst (IsDescent relation) c.starts.1 c.descends in
            let more : IsDescent relation (a ∷ b ∷ rest) = (linked, d) in
            let most = (is a).most (a ∷ b ∷ rest) (chain_from relation a (b ∷ rest) (descent_distinct relation links.alike no_cycle (a ∷ b ∷ rest) more) more) in
            let m : length xs ≡ suc (length rest) = ap length c.starts.1 in
            omega (arith, most)

        within : (a : ℕ) → rank a ≤ length ases
        within a =
            let (xs, chain, l) = (is a).longest in
            let c = chain_told relation a xs chain in
            let d : IsDescent relation (a ∷ c.starts.0) = subst (IsDescent relation) c.starts.1 c.descends in
            let n : length c.starts.0 ≤ length ases = few a c.starts.0 d in
            let m : length xs ≡ suc (length c.starts.0) = ap length c.starts.1 in
            omega arith
