-- The height of a world from its ranks.
use Rattle.std.proofs.Common.{◌≡◌, ◌⊎◌, inl, inr, ℕ, ◌+◌, ◌<◌, ◌≤◌, true, List, length, get_or, sym, ◌∙◌, subst, arith}
use Rattle.net_names.specs.Numbers.{occurs}
use Rattle.as_graph.specs.Topology.{Topology, relation, has}
use Rattle.as_graph.specs.Hierarchy.{IsRank}
use Rattle.stability_laws.specs.Laws.{IsHeight}
use Rattle.as_graph.proofs.OrderLemmas.{place_of}

pub height_is : (w : Topology) (rank : ℕ → ℕ) (ases : List ℕ) (height : ℕ) → ((a : ℕ) → IsRank (relation w) a (rank a)) → ((a : ℕ) → occurs a ases ≡ has w a)
    → ((k : ℕ) → k < length ases → rank (get_or ases k 0) + 1 ≤ height) → (height ≡ 0) ⊎ ((a : ℕ) × (has w a ≡ true) × (height ≡ rank a + 1)) → IsHeight w height
height_is w rank ases height ranks listed most reached = record {
  most = λ a xs here chain.
      let (k, less, at) = place_of ases a (listed a ∙ here) in
      let high : rank a + 1 ≤ height = subst (λ t. rank t + 1 ≤ height) at (most k less) in
      let short : length xs ≤ rank a + 1 = (ranks a).most xs chain in
      omega arith;
  reached = elim reached [
    | inl e ↦ inl e
    | inr (a, here, is) ↦ let (xs, chain, long) = (ranks a).longest in inr (a, xs, here, chain, long ∙ sym is)
  ];
}
