-- What a look-up finds among the neighbours of one AS, and what a push adds.
use Rattle.std.proofs.Common.{List, ◌≡◌, ◌≢◌, ℕ, zero, suc, ◌+◌, ◌<◌, ◌≤◌, true, ◌==◌, [], ◌∷◌, ◌++◌, length, get_or, cond, Some, None, Result, Ok, Err, IfOk, IfErr, refl, sym, ap, ◌∙◌, subst, arith, inl, inr, All}
use Rattle.std.specs.List.Sorted.{IsSearchInRange, IsBinarySearchResult, IsNonDecreasingBy, IsStrictlyIncreasing}
use Rattle.std.specs.Ordering.{nat_cmp, ordering_index}
use Rattle.std.proofs.lemmas.Bool.{cases_Bool, or_left, or_right}
use Rattle.std.proofs.lemmas.Bool.Decides.{nat_tests}
use Rattle.std.proofs.lemmas.Cmp.{ranked}
use Rattle.std.proofs.lemmas.List.{get_or-map, length-map}
use Rattle.std.proofs.lemmas.List.Elements.{All-from_get_or}
use Rattle.std.proofs.lemmas.List.Sorted.{IsNonDecreasingBy-from_default}
use Rattle.net_names.specs.declared.routes.Rel.{Rel}
use Rattle.net_names.specs.Numbers.{occurs}
use Rattle.as_graph.specs.declared.neighbour.Neighbour.{Neighbour}
use Rattle.as_graph.specs.Neighbours.{asns}
use Rattle.as_graph.specs.Rows.{rel_in, asn_at, blank, IsAt, IsGapFor, IsRising, AreBelow}

none_before_tail : (x : Neighbour) (ns : List Neighbour) (b i : ℕ) → ((j : ℕ) → j < suc i → asn_at (x ∷ ns) j ≢ b) → (j : ℕ) → j < i → asn_at ns j ≢ b
none_before_tail x ns b i none j lt = none (suc j) (omega arith)

-- a number that no neighbour has is not found
pub rel_in-absent : (ns : List Neighbour) (b : ℕ) → ((j : ℕ) → j < length ns → asn_at ns j ≢ b) → rel_in ns b ≡ None
rel_in-absent [] b none = refl
rel_in-absent (x ∷ ns) b none = grind (arith, nat_tests, none 0 (omega arith), rel_in-absent ns b (none_before_tail x ns b _ none))

-- the first neighbour of the number is found
rel_in-first : (ns : List Neighbour) (b i : ℕ) → i < length ns → asn_at ns i ≡ b → ((j : ℕ) → j < i → asn_at ns j ≢ b) → rel_in ns b ≡ Some (get_or ns i blank).rel
rel_in-first [] b i lt is none = absurd (omega arith)
rel_in-first (x ∷ ns) b zero lt is none = grind (arith, nat_tests, is)
rel_in-first (x ∷ ns) b (suc i) lt is none = grind (arith, nat_tests, none 0 (omega arith), rel_in-first ns b i (omega arith) is (none_before_tail x ns b i none))

module _ (ns : List Neighbour) (rising : IsRising ns) (b i : ℕ) where
  -- the neighbour at a place is found by its number
  pub rel_in-at : IsAt ns b i → rel_in ns b ≡ Some (get_or ns i blank).rel
  rel_in-at at = rel_in-first ns b i at.in_range at.has_asn (λ j lt same. omega (arith, rising j i lt at.in_range, at.has_asn))

pub rel_in-gap : (ns : List Neighbour) (b i : ℕ) → IsGapFor ns b i → rel_in ns b ≡ None
rel_in-gap ns b i gap = rel_in-absent ns b (λ j lt same. grind (arith, gap.smaller_before j, gap.greater_after j))

-- a binary search by number ends at the number, or at the gap for it
comparisons_rise : (ns : List Neighbour) → IsRising ns → (b : ℕ) → IsNonDecreasingBy (λ n. ordering_index (nat_cmp n.asn b)) ns
comparisons_rise ns rising b = IsNonDecreasingBy-from_default (λ n. ordering_index (nat_cmp n.asn b)) ns blank (λ i j le in_range.
    let rise : asn_at ns i ≤ asn_at ns j = grind (arith, rising i j, λ (same : i ≡ j). ap (asn_at ns) same) in
    grind (arith, nat_tests))

searched : (ns : List Neighbour) → IsRising ns → (b : ℕ) (r : Result ℕ ℕ) → IsSearchInRange r (length ns) → IsBinarySearchResult (λ n. nat_cmp n.asn b) ns r → record { found : IfOk r (IsAt ns b); absent : IfErr r (IsGapFor ns b) }
searched ns rising b (Ok at) in_range equal = record { found = record { in_range = in_range; has_asn = ranked _ b _ (sym (equal blank)) }; absent = tt }
searched ns rising b (Err at) in_range parted = record {
  found = tt;
  absent = record {
    in_range = in_range;
    smaller_before = λ j lt. ranked _ b _ (sym ((parted (comparisons_rise ns rising b)).0 j blank (omega arith) lt));
    greater_after = λ j le lt. ranked _ b _ (sym ((parted (comparisons_rise ns rising b)).1 j blank le lt));
  };
}

-- the same, of a list that was read as ms
pub searched_in : (ns ms : List Neighbour) → ms ≡ ns → IsRising ns → (b : ℕ) (r : Result ℕ ℕ) → IsSearchInRange r (length ms) → IsBinarySearchResult (λ (n : Neighbour). nat_cmp n.asn b) ms r → record { found : IfOk r (IsAt ns b); absent : IfErr r (IsGapFor ns b) }
searched_in ns ms e rising b r in_range found =
    searched ns rising b r (subst (λ l. IsSearchInRange r (length l)) e in_range) (subst (λ l. IsBinarySearchResult (λ (n : Neighbour). nat_cmp n.asn b) l r) e found)

-- a neighbour above all others, at the end
pub rel_in-push : (ns : List Neighbour) (n : Neighbour) (b : ℕ) → AreBelow ns n.asn → rel_in (ns ++ n ∷ []) b ≡ cond (n.asn == b) (Some n.rel) (rel_in ns b)
rel_in-push [] n b below = refl
rel_in-push (x ∷ ns) n b below = grind (arith, nat_tests, below 0 (omega arith), rel_in-push ns n b (λ i lt. below (suc i) (omega arith)))

-- the numbers of neighbours that rise
pub rising_asns : (ns : List Neighbour) → IsRising ns → IsStrictlyIncreasing (asns ns)
rising_asns ns rising k h =
    let len : length (asns ns) ≡ length ns = length-map ns (λ (x : Neighbour). x.asn) in
    let here : get_or (asns ns) k 0 ≡ asn_at ns k = get_or-map (λ (x : Neighbour). x.asn) ns k blank 0 (omega arith) in
    let next : get_or (asns ns) (k + 1) 0 ≡ asn_at ns (k + 1) = get_or-map (λ (x : Neighbour). x.asn) ns (k + 1) blank 0 (omega arith) in
    omega (arith, here, next, rising k (k + 1) (omega arith) (omega arith))

-- each neighbour is found by its number
pub found_each : (ns : List Neighbour) → IsRising ns → All (λ x. rel_in ns x.asn ≡ Some x.rel) ns
found_each ns rising = All-from_get_or (λ x. rel_in ns x.asn ≡ Some x.rel) ns blank (λ k lt. rel_in-at ns rising (asn_at ns k) k (record { in_range = lt; has_asn = refl }))

-- a number that is found stands in the list
pub found_occurs : (ns : List Neighbour) (b : ℕ) (r : Rel) → rel_in ns b ≡ Some r → occurs b (asns ns) ≡ true
found_occurs [] b r h = cc
found_occurs (x ∷ ns) b r h = elim (cases_Bool (x.asn == b)) [
  | inl e ↦ or_left (x.asn == b) (occurs b (asns ns)) e
  | inr e ↦ or_right (x.asn == b) (occurs b (asns ns)) (found_occurs ns b r (sym (ap (λ t. cond t (Some x.rel) (rel_in ns b)) e) ∙ h))
]
