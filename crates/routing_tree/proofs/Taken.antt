-- What is seen, chosen and taken, whatever the tree is of.
use Rattle.std.proofs.Common.{◌≡◌, ◌<◌, ◌+◌, ℕ, inl, inr, Option, Some, None, option_map, List, slice_index, slice_index_or, if◌then◌else◌, refl, sym, ◌∙◌, ap, subst, arith}
use Rattle.std.proofs.lemmas.Bool.{cases_eq, ne_eqb}
use Rattle.std.proofs.lemmas.List.{get_or_read}
use Rattle.net_names.specs.declared.routes.Rel.{Rel}
use Rattle.net_names.specs.declared.routes.State.{State}
use Rattle.policy_laws.specs.Plain.{IsOf, TakesNone}
use Rattle.policy_laws.specs.Policy.{Policy}
use Rattle.policy_laws.specs.declared.policy.View.{View}
use Rattle.routing_tree.specs.declared.choosing.Best.{Best}
use Rattle.routing_tree.specs.declared.tree.RoutingTree.{RoutingTree}
use Rattle.routing_tree.specs.Chosen.{AreStatesOf, IsChosen, IsFirst, seen_at, state_at}
use Rattle.routing_tree.specs.Trees.{HasPlaces}
use Rattle.routing_tree.proofs.Offered.{none_seen}

module _ (ases : List ℕ) (t : RoutingTree) where
  -- what is seen is held,
  pub seen_some : (r : Rel) (j : ℕ) (v : View) → seen_at ases t r j ≡ Some v → 0 < slice_index t.lengths.items j
  seen_some r j v seen = elim (cases_eq (slice_index t.lengths.items j) 0) [
    | inl none ↦ (let z : None ≡ Some v = sym (none_seen ases t j r none) ∙ seen in cc)
    | inr some ↦ omega (arith, some)
  ]

  -- and has its state
  pub seen_state : (r : Rel) (j : ℕ) (v : View) → seen_at ases t r j ≡ Some v → v.state ≡ state_at t j
  seen_state r j v seen =
      let some = seen_some r j v seen in
      let view : View = record { rel = r; neighbour = slice_index ases j; length = slice_index t.lengths.items j + 1; state = state_at t j; otc = None } in
      let is : seen_at ases t r j ≡ Some view = ap (λ b. if b then None else Some view) (ne_eqb (slice_index t.lengths.items j) 0 (λ none. omega (arith, some, none))) in
      let both : Some view ≡ Some v = sym is ∙ seen in
      let same : view ≡ v = cc in
      ap (λ (x : View). x.state) (sym same)

  -- who takes no offer of the states that are held chooses none
  pub none_chosen : (p : Policy) (all : Option State) (Looks : Rel → ℕ → Type 0) → TakesNone p (IsOf all) → AreStatesOf all t → IsChosen p ases t Looks None
  none_chosen p all Looks none states r j v looks seen = none v (subst (IsOf all) (sym (seen_state r j v seen)) (states j (seen_some r j v seen)))

  -- a choice, by the place of what is chosen
  pub chosen_at : (p : Policy) (Looks : Rel → ℕ → Type 0) (from : ℕ) (best : Option Best) → IsChosen p ases t Looks best → Some from ≡ option_map (λ (b : Best). b.place) best → (b : Best) × IsFirst p ases t Looks b × (b.place ≡ from)
  chosen_at p Looks from None chosen is = cc
  chosen_at p Looks from (Some b) chosen is = (b, chosen, (let same : b.place ≡ from = cc in same))

  pub chosen_none : (p : Policy) (Looks : Rel → ℕ → Type 0) (best : Option Best) → IsChosen p ases t Looks best → None ≡ option_map (λ (b : Best). b.place) best → IsChosen p ases t Looks None
  chosen_none p Looks None chosen is = chosen
  chosen_none p Looks (Some b) chosen is = cc

-- what is chosen among those of which one is made of each place is at that place
pub place_again : (f : ℕ → Best) → ((j : ℕ) → (f j).place ≡ j) → (r : Option ℕ) → r ≡ option_map (λ (b : Best). b.place) (option_map f r)
place_again f same None = refl
place_again f same (Some j) = ap Some (sym (same j))

-- the length that was read at a place
pub length_read : (n i x : ℕ) (t : RoutingTree) → HasPlaces n t → i < n → x ≡ slice_index_or t.lengths.items i x → slice_index t.lengths.items i ≡ x
length_read n i x t places less is = sym (get_or_read t.lengths.items i x (omega (arith, less, places.lengths)) is 0)
