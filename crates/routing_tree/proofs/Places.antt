-- ASes at their places by rank.
use Rattle.std.proofs.Common.{◌≡◌, ◌≢◌, ◌<◌, ◌≤◌, inl, inr, ℕ, suc, true, false, ◌==◌, All, nat_eq, Some, None, List, length, take, option_map, slice_index, slice_index_or, sym, ◌∙◌, ap, subst, arith}
use Rattle.std.specs.List.{IsDistinct}
use Rattle.std.proofs.lemmas.Bool.{cases_lt, eq-eqb}
use Rattle.std.proofs.lemmas.List.{get_or_default, get_or-take, length-take-le}
use Rattle.std.proofs.lemmas.List.Folds.{list_any_at}
use Rattle.net_names.specs.Links.{converse}
use Rattle.net_names.specs.Numbers.{occurs}
use Rattle.net_names.specs.declared.routes.Rel.{Rel}
use Rattle.net_names.specs.declared.routes.Rel.TheVariants.{Customer, Provider}
use Rattle.stability_laws.specs.Offers.{Setting}
use Rattle.route_choice.proofs.Numbers.{apart_at}
use Rattle.three_pass.proofs.ByRank.{IsByRank, StandsAt, stands_at}
use Rattle.three_pass.proofs.InOrder.{place}

-- a number that stands in a list of which all holds
pub all_occurring : (P : ℕ → Type 0) (xs : List ℕ) (x : ℕ) → All P xs → occurs x xs ≡ true → P x
all_occurring P xs x all there = (let (i, less, at) = place 0 x xs there in subst P at (all i 0 less))

-- ASes at different places are different
pub apart : (xs : List ℕ) (i j : ℕ) → IsDistinct nat_eq xs → i < length xs → j < length xs → i ≢ j → slice_index xs i ≢ slice_index xs j
apart xs i j distinct within also other same = elim (cases_lt i j) [
  | inl less ↦ before i j also less same
  | inr more ↦ before j i within (let ne = other in omega (arith, more, ne)) (sym same)
]
  where
    before : (k m : ℕ) → m < length xs → k < m → slice_index xs k ≡ slice_index xs m → ⊥
    before k m inside less is =
        let len : length (take m xs) ≡ m = length-take-le m xs (omega (arith, inside)) in
        let at : slice_index_or (take m xs) k 0 ≡ slice_index xs m = get_or-take m xs k 0 less ∙ is in
        let there : occurs (slice_index xs m) (take m xs) ≡ true = list_any_at (λ y. y == slice_index xs m) (take m xs) k 0 (omega (arith, len, less)) (eq-eqb _ _ at) in
        let z : true ≡ false = sym there ∙ apart_at xs m 0 distinct inside in cc

-- an AS of the list has a place there
pub place_of : (xs : List ℕ) (a : ℕ) → occurs a xs ≡ true → (k : ℕ) × (k < length xs) × (slice_index xs k ≡ a)
place_of xs a there = place 0 a xs there

module _ {w : Setting} {xs : List ℕ} (o : IsByRank w xs) where
  pub stands : (i : ℕ) → i < length xs → StandsAt xs i (slice_index xs i)
  stands i within = stands_at xs i (slice_index xs i) within (get_or_default xs i 0 (slice_index xs i) within)

  -- customers stand lower,
  pub customer_lower : (i j : ℕ) → i < length xs → j < length xs → w.relation (slice_index xs i) (slice_index xs j) ≡ Some Customer → j < i
  customer_lower i j within also linked = elim (cases_lt j i) [
    | inl less ↦ less
    | inr more ↦
        let rising : o.rank (slice_index xs i) ≤ o.rank (slice_index xs j) = o.order.rising i j 0 more also in
        let falls : suc (o.rank (slice_index xs j)) ≤ o.rank (slice_index xs i) = o.falls (slice_index xs i) (slice_index xs j) linked in
        absurd (omega (arith, rising, falls))
  ]

  -- and providers higher
  pub provider_higher : (i j : ℕ) → i < length xs → j < length xs → w.relation (slice_index xs i) (slice_index xs j) ≡ Some Provider → i < j
  provider_higher i j within also linked = customer_lower j i also within (o.mutual_links (slice_index xs i) (slice_index xs j) ∙ ap (option_map converse) linked)

  -- a neighbour stands elsewhere
  pub elsewhere : (i j : ℕ) (r : Rel) → w.relation (slice_index xs i) (slice_index xs j) ≡ Some r → j ≢ i
  elsewhere i j r linked same = (let z : None ≡ Some r = sym (o.alone (slice_index xs i)) ∙ ap (λ k. w.relation (slice_index xs i) (slice_index xs k)) (sym same) ∙ linked in cc)
