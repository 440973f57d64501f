-- Parents come first, also after something is put where nothing stood.
use Rattle.std.proofs.Common.{◌≡◌, ◌≢◌, ◌<◌, ◌⊎◌, inl, inr, ℕ, Bool, true, false, Option, Some, None, List, slice_get, slice_index, refl, sym, ◌∙◌, ap, subst, arith}
use Rattle.std.proofs.lemmas.Bool.{cases_eq}
use Rattle.net_names.specs.declared.routes.State.{State}
use Rattle.stability_laws.specs.declared.entry.Entry.{Entry}
use Rattle.routing_tree.specs.declared.tree.PlacedSeed.{PlacedSeed}
use Rattle.routing_tree.specs.declared.tree.RoutingTree.{RoutingTree}
use Rattle.routing_tree.specs.Puts.{AreSameAt, AreSown, IsPut}
use Rattle.routing_tree.specs.Trees.{HasPlaces, IsHeldAt, IsLowAt, IsParent, ParentsComeFirst}

-- what is held at a place that stays the same
pub held_still : (state : ℕ → State) (ases : List ℕ) (t u : RoutingTree) (k : ℕ) (h : Option Entry) → AreSameAt t u k → IsHeldAt state ases t k h → IsHeldAt state ases u k h
held_still state ases t u k None same held = same.lengths ∙ held
held_still state ases t u k (Some e) same held = record {
  some = held.some;
  length_is = same.lengths ∙ held.length_is;
  low = same.lows ∙ held.low;
  state_is = same.states ∙ held.state_is;
  unmarked = held.unmarked;
  parent = subst (λ p. IsParent ases k p e) (sym same.parents) held.parent;
}

low_still : (t u : RoutingTree) (k : ℕ) → AreSameAt t u k → IsLowAt t k → IsLowAt u k
low_still t u k same low = record { some = subst (λ l. 0 < l) (sym same.lengths) low.some; low = same.lows ∙ low.low }

low_before : (t u : RoutingTree) (k : ℕ) → AreSameAt t u k → IsLowAt u k → IsLowAt t k
low_before t u k same low = record { some = subst (λ l. 0 < l) same.lengths low.some; low = sym same.lows ∙ low.low }

not_true : (b : Bool) → (b ≡ true → ⊥) → b ≡ false
not_true true never = absurd (never refl)
not_true false never = refl

module _ (t u : RoutingTree) (at size : ℕ) (low : Bool) (state : State) (parent n : ℕ) (put : IsPut t u at size low state parent) (none : slice_index t.lengths.items at ≡ 0)
    (up : low ≡ true → (parent < at) × IsLowAt t parent) (down : low ≡ false → IsLowAt t parent ⊎ ((at < parent) × (0 < slice_index t.lengths.items parent))) (before : ParentsComeFirst t n) where
  -- who holds something isn't the one at which it is put
  other_than : (k : ℕ) → 0 < slice_index t.lengths.items k → k ≢ at
  other_than k some same = (let is : slice_index t.lengths.items k ≡ 0 = ap (slice_index t.lengths.items) same ∙ none in omega (arith, some, is))

  low_stays : (k : ℕ) → IsLowAt t k → IsLowAt u k
  low_stays k is = low_still t u k (put.others k (other_than k is.some)) is

  some_stays : (k : ℕ) → 0 < slice_index t.lengths.items k → 0 < slice_index u.lengths.items k
  some_stays k is = subst (λ l. 0 < l) (sym (put.others k (other_than k is)).lengths) is

  pub first_still : ParentsComeFirst u n
  first_still = record { low = is_low; high = is_high }
    where
      low_here : (k : ℕ) → k ≡ at → slice_get u.lows.items k ≡ Some low
      low_here k same = ap (slice_get u.lows.items) same ∙ put.here.low_is

      parent_here : (k : ℕ) → k ≡ at → slice_index u.parents.items k ≡ parent
      parent_here k same = ap (slice_index u.parents.items) same ∙ put.here.parent_is

      is_low : (k : ℕ) → k < n → IsLowAt u k → (slice_index u.parents.items k ≡ k) ⊎ ((slice_index u.parents.items k < k) × IsLowAt u (slice_index u.parents.items k))
      is_low k less is = elim (cases_eq k at) [
        | inl same ↦
            let both : Some low ≡ Some true = sym (low_here k same) ∙ is.low in
            let flag : low ≡ true = cc in
            let (under, giver) = up flag in
            let at_parent : slice_index u.parents.items k ≡ parent = parent_here k same in
            inr (omega (arith, at_parent, under, same), subst (IsLowAt u) (sym at_parent) (low_stays parent giver))
        | inr other ↦ elim (before.low k less (low_before t u k (put.others k other) is)) [
          | inl own ↦ inl ((put.others k other).parents ∙ own)
          | inr (under, giver) ↦
              let still : slice_index u.parents.items k ≡ slice_index t.parents.items k = (put.others k other).parents in
              inr (omega (arith, still, under), subst (IsLowAt u) (sym still) (low_stays (slice_index t.parents.items k) giver))
        ]
      ]

      is_high : (k : ℕ) → k < n → 0 < slice_index u.lengths.items k → slice_get u.lows.items k ≢ Some true →
          IsLowAt u (slice_index u.parents.items k) ⊎ ((k < slice_index u.parents.items k) × (0 < slice_index u.lengths.items (slice_index u.parents.items k)))
      is_high k less some high = elim (cases_eq k at) [
        | inl same ↦
            let at_parent : slice_index u.parents.items k ≡ parent = parent_here k same in
            elim (down (not_true low (λ yes. high (low_here k same ∙ ap Some yes)))) [
              | inl giver ↦ inl (subst (IsLowAt u) (sym at_parent) (low_stays parent giver))
              | inr (over, holds) ↦ inr (omega (arith, at_parent, over, same), subst (λ p. 0 < slice_index u.lengths.items p) (sym at_parent) (some_stays parent holds))
            ]
        | inr other ↦
            let there = put.others k other in
            let still : slice_index u.parents.items k ≡ slice_index t.parents.items k = there.parents in
            elim (before.high k less (subst (λ l. 0 < l) there.lengths some) (λ yes. high (there.lows ∙ yes))) [
              | inl giver ↦ inl (subst (IsLowAt u) (sym still) (low_stays (slice_index t.parents.items k) giver))
              | inr (over, holds) ↦ inr (omega (arith, still, over), subst (λ p. 0 < slice_index u.lengths.items p) (sym still) (some_stays (slice_index t.parents.items k) holds))
            ]
      ]

-- where seeds were sown each is its own parent
pub sown_first : (seeds : List PlacedSeed) (m n : ℕ) (t : RoutingTree) → HasPlaces n t → AreSown seeds m t → ParentsComeFirst t n
sown_first seeds m n t places sown = record {
  low = λ k less is. elim (sown k (omega (arith, less, places.lengths))) [
    | inl seed ↦ inl seed.at.parent_is
    | inr none ↦ absurd (omega (arith, none.0, is.some))
  ];
  high = λ k less some high. elim (sown k (omega (arith, less, places.lengths))) [
    | inl seed ↦ absurd (high seed.at.low_is)
    | inr none ↦ absurd (omega (arith, none.0, some))
  ];
}
