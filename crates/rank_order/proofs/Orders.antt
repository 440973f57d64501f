-- ASes with places, sorted.
use Rattle.std.proofs.Common.{◌≡◌, ℕ, ◌<◌, List, [], ◌∷◌, length, get_or, sym, subst, arith}
use Rattle.std.proofs.lemmas.List.{get_or-map, length-map}
use Rattle.std.proofs.lemmas.List.Sorted.{IsPermutation-map}
use Rattle.std.specs.List.Sorted.{IsNonDecreasingBy, IsPermutation}
use Rattle.rank_order.specs.declared.order.Placed.{Placed}
use Rattle.rank_order.specs.Placed.{asns_of}
use Rattle.rank_order.specs.Ranks.{IsSortedOut}

-- what rises along the ASes with places rises along their numbers
rising_asns : (rank : ℕ → ℕ) (qs : List Placed) → IsNonDecreasingBy (λ q. rank q.asn) qs → IsNonDecreasingBy rank (asns_of qs)
rising_asns rank [] rises i j d le lt = absurd (omega arith)
rising_asns rank (q ∷ qs) rises i j d le lt =
    let inside : j < length (q ∷ qs) = omega (arith, lt, length-map (q ∷ qs) (λ (x : Placed). x.asn)) in
    let first : get_or (asns_of (q ∷ qs)) i d ≡ (get_or (q ∷ qs) i q).asn = get_or-map (λ (x : Placed). x.asn) (q ∷ qs) i q d (omega (arith, inside, le)) in
    let second : get_or (asns_of (q ∷ qs)) j d ≡ (get_or (q ∷ qs) j q).asn = get_or-map (λ (x : Placed). x.asn) (q ∷ qs) j q d inside in
    rw (first, second) (rises i j q le inside)

-- the numbers of the sorted ASes are the numbers, sorted
pub sorted_asns : (rank : ℕ → ℕ) (xs ys : List ℕ) (ps qs : List Placed) → asns_of ps ≡ xs → ys ≡ asns_of qs → IsPermutation ps qs → IsNonDecreasingBy (λ q. rank q.asn) qs → IsSortedOut rank xs ys
sorted_asns rank xs ys ps qs from to same rises = record {
  same = subst (λ zs. IsPermutation zs ys) from (subst (IsPermutation (asns_of ps)) (sym to) (IsPermutation-map (λ (x : Placed). x.asn) ps qs same));
  rising = subst (IsNonDecreasingBy rank) (sym to) (rising_asns rank qs rises);
}
