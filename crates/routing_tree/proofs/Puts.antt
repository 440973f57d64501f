-- What stands where something is put into a tree.
use Rattle.std.proofs.Common.{◌≡◌, ◌≢◌, ◌<◌, ◌≤◌, ◌+◌, inl, inr, ℕ, zero, suc, Bool, All, Option, Some, List, [], ◌∷◌, length, slice_get, slice_index, slice_set, unwrap_or, refl, sym, ◌∙◌, ap, subst, arith}
use Rattle.std.proofs.lemmas.Bool.{cases_eq, cases_lt}
use Rattle.std.proofs.lemmas.List.{get_or_past}
use Rattle.std.proofs.lemmas.Option.{slice_get_within, get_or_from_slice_get}
use Rattle.net_names.specs.declared.routes.State.{State}
use Rattle.net_names.specs.declared.routes.State.TheVariants.{NotFound}
use Rattle.policy_laws.specs.Plain.{IsOf}
use Rattle.routing_tree.specs.declared.tree.PlacedSeed.{PlacedSeed}
use Rattle.routing_tree.specs.declared.tree.RoutingTree.{RoutingTree}
use Rattle.routing_tree.specs.Chosen.{AreStatesOf}
use Rattle.routing_tree.specs.Puts.{AreAtMost, AreSown, IsPut}
use Rattle.routing_tree.specs.Trees.{HasPlaces}

-- what was written stands there,
pub get_set_here : {X : Type 0} (xs : List X) (i : ℕ) (x : X) → i < length xs → slice_get (slice_set xs i x) i ≡ Some x
get_set_here [] i x less = absurd (omega (arith, less))
get_set_here (y ∷ xs) zero x less = refl
get_set_here (y ∷ xs) (suc i) x less = get_set_here xs i x (omega (arith, less))

-- and the rest stays
pub get_set_there : {X : Type 0} (xs : List X) (i j : ℕ) (x : X) → j ≢ i → slice_get (slice_set xs i x) j ≡ slice_get xs j
get_set_there [] zero j x other = refl
get_set_there [] (suc i) j x other = refl
get_set_there (y ∷ xs) zero zero x other = absurd (other refl)
get_set_there (y ∷ xs) zero (suc j) x other = refl
get_set_there (y ∷ xs) (suc i) zero x other = refl
get_set_there (y ∷ xs) (suc i) (suc j) x other = get_set_there xs i j x (λ e. other (ap suc e))

-- an element that stands somewhere is one of which all holds
pub all_got : {X : Type 0} (P : X → Type 0) (xs : List X) (i : ℕ) (x : X) → All P xs → slice_get xs i ≡ Some x → P x
all_got P xs i x all at = subst P (get_or_from_slice_get xs i x x at) (all i x (slice_get_within xs i x at))

-- a tree has as many places as it has lengths
pub own_places : (n : ℕ) (t : RoutingTree) → HasPlaces n t → HasPlaces (length t.lengths.items) t
own_places n t places = record { lengths = refl; lows = places.lows ∙ sym places.lengths; states = places.states ∙ sym places.lengths; parents = places.parents ∙ sym places.lengths }

-- a place with a length is one of the tree
pub within : (n : ℕ) (t : RoutingTree) (k : ℕ) → HasPlaces n t → 0 < slice_index t.lengths.items k → k < n
within n t k places some = elim (cases_lt k n) [
  | inl less ↦ less
  | inr past ↦ (let none : slice_index t.lengths.items k ≡ 0 = get_or_past t.lengths.items k 0 (omega (arith, past, places.lengths)) in absurd (omega (arith, some, none)))
]

module _ (t u : RoutingTree) (at size : ℕ) (low : Bool) (state : State) (parent : ℕ) (put : IsPut t u at size low state parent) where
  -- a put of one more than the greatest length
  pub most_more : (m : ℕ) → size ≤ m + 1 → AreAtMost m t → AreAtMost (m + 1) u
  most_more m short most k = elim (cases_eq k at) [
    | inl same ↦ (let is : slice_index u.lengths.items k ≡ size = ap (λ j. slice_index u.lengths.items j) same ∙ put.here.length_is in omega (arith, is, short))
    | inr other ↦ (let is = (put.others k other).lengths in omega (arith, is, most k))
  ]

  -- a put of a state that passes
  pub states_more : (all : Option State) → IsOf all state → AreStatesOf all t → AreStatesOf all u
  states_more all this before j some = elim (cases_eq j at) [
    | inl same ↦ subst (IsOf all) (sym (ap (λ o. unwrap_or o NotFound) (ap (slice_get u.states.items) same ∙ put.here.state_is))) this
    | inr other ↦
        let still = put.others j other in
        subst (IsOf all) (sym (ap (λ o. unwrap_or o NotFound) still.states)) (before j (subst (λ l. 0 < l) still.lengths some))
  ]

-- the lengths where seeds were sown
pub sown_most : (seeds : List PlacedSeed) (m : ℕ) (t : RoutingTree) → AreSown seeds m t → AreAtMost 1 t
sown_most seeds m t sown k = elim (cases_lt k (length t.lengths.items)) [
  | inl less ↦ elim (sown k less) [
    | inl seed ↦ omega (arith, seed.at.length_is)
    | inr none ↦ omega (arith, none.0)
  ]
  | inr past ↦ omega (arith, get_or_past t.lengths.items k 0 past)
]

-- and the states
pub sown_states : (all : Option State) (seeds : List PlacedSeed) (m : ℕ) (t : RoutingTree) → All (λ s. IsOf all s.state) seeds → AreSown seeds m t → AreStatesOf all t
sown_states all seeds m t each sown j some = elim (cases_lt j (length t.lengths.items)) [
  | inl less ↦ elim (sown j less) [
    | inl seed ↦ subst (IsOf all) (sym (ap (λ o. unwrap_or o NotFound) seed.at.state_is)) (all_got (λ s. IsOf all s.state) seeds seed.index seed.seed each seed.among)
    | inr none ↦ absurd (omega (arith, some, none.0))
  ]
  | inr past ↦ absurd (omega (arith, some, get_or_past t.lengths.items j 0 past))
]
