-- Ranks are the numbers that fit.
use Rattle.std.proofs.Common.{◌≡◌, ◌⊎◌, inl, inr, ℕ, zero, suc, ◌+◌, ◌<◌, ◌≤◌, true, ◌==◌, Option, Some, List, [], ◌∷◌, length, refl, ap, subst, arith}
use Rattle.std.proofs.lemmas.Bool.{cases_Bool, or_cases, eqb-true}
use Rattle.net_names.specs.declared.routes.Rel.{Rel}
use Rattle.net_names.specs.declared.routes.Rel.TheVariants.{Customer}
use Rattle.as_graph.specs.Topology.{Topology, relation, ases}
use Rattle.net_names.specs.Numbers.{occurs, IsDistinct}
use Rattle.as_graph.specs.Hierarchy.{IsDescent, HasNoProviderCycle, IsRank, RankFits}
use Rattle.as_graph.proofs.Chains.{descent_tail}
use Rattle.as_graph.proofs.Told.{IsChainTold, chain_told, chain_from}
use Rattle.as_graph.proofs.Links.{topology-AreLinks}
use Rattle.as_graph.proofs.Ranks.{ranks_fall}

module _ (relation : ℕ → ℕ → Option Rel) (rank : ℕ → ℕ) (fits : (a : ℕ) → RankFits relation rank a) where
  bounded : (a : ℕ) (xs : List ℕ) → IsDescent relation (a ∷ xs) → length xs ≤ rank a
  bounded a [] d = omega arith
  bounded a (b ∷ ys) d =
      let rest : length ys ≤ rank b = bounded b ys d.1 in
      let less : suc (rank b) ≤ rank a = (fits a).above b d.0 in
      omega arith

  all_below : (a : ℕ) (xs : List ℕ) → IsDescent relation (a ∷ xs) → (z : ℕ) → occurs z xs ≡ true → rank z < rank a
  all_below a [] d z h = cc
  all_below a (b ∷ ys) d z h =
      let less : suc (rank b) ≤ rank a = (fits a).above b d.0 in
      elim (or_cases (b == z) (occurs z ys) h) [
        | inl e ↦ (let same : rank b ≡ rank z = ap rank (eqb-true b z e) in omega arith)
        | inr e ↦ (let rest : rank z < rank b = all_below b ys d.1 z e in omega arith)
      ]

  falling_distinct : (xs : List ℕ) → IsDescent relation xs → IsDistinct xs
  falling_distinct [] d = tt
  falling_distinct (a ∷ xs) d = (
    elim (cases_Bool (occurs a xs)) [ inl e ↦ (let below : rank a < rank a = all_below a xs d a e in absurd (omega arith)) | inr e ↦ e ],
    falling_distinct xs (descent_tail relation a xs d),
  )

  reach : (k a : ℕ) → rank a ≡ k → (xs : List ℕ) × IsDescent relation (a ∷ xs) × (length xs ≡ k)
  reach zero a is = ([], tt, refl)
  reach (suc k) a is = by (fits a).reached (reach k)
    where
      by : (rank a ≡ 0) ⊎ ((b : ℕ) × (relation a b ≡ Some Customer) × (rank a ≡ suc (rank b))) → ((b : ℕ) → rank b ≡ k → (xs : List ℕ) × IsDescent relation (b ∷ xs) × (length xs ≡ k)) → (xs : List ℕ) × IsDescent relation (a ∷ xs) × (length xs ≡ suc k)
      by (inl e) ih = absurd (omega arith)
      by (inr (b, linked, e)) ih = let (xs, d, l) = ih b (omega arith) in (b ∷ xs, (linked, d), ap suc l)

  pub fitting_is_rank : (a : ℕ) → IsRank relation a (rank a)
  fitting_is_rank a =
      let (xs, d, l) = reach (rank a) a refl in
      record {
        longest = (a ∷ xs, chain_from relation a xs (falling_distinct (a ∷ xs) d) d, omega arith);
        most = λ ys chain.
            let c = chain_told relation a ys chain in
            let d' : IsDescent relation (a ∷ c.starts.0) = subst (IsDescent relation) c.starts.1 c.descends in
            let n : length c.starts.0 ≤ rank a = bounded a c.starts.0 d' in
            let m : length ys ≡ suc (length c.starts.0) = ap length c.starts.1 in
            omega arith;
      }

pub one_rank_at : (relation : ℕ → ℕ → Option Rel) (a r s : ℕ) → IsRank relation a r → IsRank relation a s → r ≡ s
one_rank_at relation a r s x y =
    let (xs, c, l) = x.longest in
    let (ys, d, m) = y.longest in
    let p : length xs ≤ s + 1 = y.most xs c in
    let q : length ys ≤ r + 1 = x.most ys d in
    omega arith

pub ranks_fit_at : (w : Topology) (rank : ℕ → ℕ) → HasNoProviderCycle (relation w) → ((a : ℕ) → IsRank (relation w) a (rank a)) → (a : ℕ) → RankFits (relation w) rank a
ranks_fit_at w rank no_cycle is a = record { above = above; reached = let (xs, c, l) = (is a).longest in let told = chain_told (relation w) a xs c in by xs told l told.starts.0 told.starts.1 }
  where
    above : (b : ℕ) → relation w a b ≡ Some Customer → suc (rank b) ≤ rank a
    above b linked = (ranks_fall (relation w) (ases w) (topology-AreLinks w) no_cycle rank is).falls a b linked

    by : (xs : List ℕ) → IsChainTold (relation w) a xs → length xs ≡ rank a + 1 → (rest : List ℕ) → xs ≡ a ∷ rest → (rank a ≡ 0) ⊎ ((b : ℕ) × (relation w a b ≡ Some Customer) × (rank a ≡ suc (rank b)))
    by xs c l [] e = inl (let m : length xs ≡ 1 = ap length e in omega arith)
    by xs c l (b ∷ rest) e =
        let d : IsDescent (relation w) (a ∷ b ∷ rest) = subst (IsDescent (relation w)) e c.descends in
        let dis : IsDistinct (a ∷ b ∷ rest) = subst IsDistinct e c.distinct in
        let m : length xs ≡ suc (suc (length rest)) = ap length e in
        let most = (is b).most (b ∷ rest) (chain_from (relation w) b rest dis.1 d.1) in
        let less = above b d.0 in
        inr (b, d.0, omega (arith, most, less))
