-- What is put into a tree.
use Rattle.std.specs.Prelude.{◌≡◌, ◌≢◌, ◌<◌, ◌≤◌, ◌⊎◌, ℕ, Bool, true, Some, List, nat_eq, length, slice_get, slice_index}
use Rattle.std.specs.List.{IsDistinct}
use Rattle.as_graph.specs.declared.build.TheConstants.{MOST_ASES}
use Rattle.net_names.specs.declared.routes.State.{State}
use Rattle.routing_tree.specs.declared.tree.Placed.{Placed}
use Rattle.routing_tree.specs.declared.tree.PlacedSeed.{PlacedSeed}
use Rattle.routing_tree.specs.declared.tree.RoutingTree.{RoutingTree}
use Rattle.routing_tree.specs.Links.{HasLists}

-- the ASes are few enough, and stand once each; each has a policy and its links
pub record CanGrow {P : Type 0} (p : Placed P) : Type 0 where
  pub few : length p.ases.now ≤ MOST_ASES
  pub policies : length p.policies.now ≡ length p.ases.now
  pub lists : HasLists (length p.ases.now) p.links.now
  pub apart : IsDistinct nat_eq p.ases.now

-- no path is longer than this
abbrev pub AreAtMost : ℕ → RoutingTree → Type 0
AreAtMost m t = (k : ℕ) → slice_index t.lengths.items k ≤ m

-- two trees have the same at a place
pub record AreSameAt (t u : RoutingTree) (k : ℕ) : Type 0 where
  pub lengths : slice_index u.lengths.items k ≡ slice_index t.lengths.items k
  pub lows : slice_get u.lows.items k ≡ slice_get t.lows.items k
  pub states : slice_get u.states.items k ≡ slice_get t.states.items k
  pub parents : slice_index u.parents.items k ≡ slice_index t.parents.items k

-- the tree has this at a place: how long the path is, whether it is an own or a customer's route, the state, and the parent
pub record IsAt (t : RoutingTree) (k size : ℕ) (low : Bool) (state : State) (parent : ℕ) : Type 0 where
  pub length_is : slice_index t.lengths.items k ≡ size
  pub low_is : slice_get t.lows.items k ≡ Some low
  pub state_is : slice_get t.states.items k ≡ Some state
  pub parent_is : slice_index t.parents.items k ≡ parent

-- from one tree to the next this was put at a place, and nothing else changed
pub record IsPut (t u : RoutingTree) (k size : ℕ) (low : Bool) (state : State) (parent : ℕ) : Type 0 where
  pub here : IsAt u k size low state parent
  pub others : (j : ℕ) → j ≢ k → AreSameAt t u j

-- one of the seeds stands at this place, and the tree has it there
pub record IsSown (seeds : List PlacedSeed) (t : RoutingTree) (k : ℕ) : Type 0 where
  pub index : ℕ
  pub seed : PlacedSeed
  pub among : slice_get seeds index ≡ Some seed
  pub there : seed.place ≡ k
  pub at : IsAt t k 1 true seed.state k

-- at each place the tree has a seed that stands there, or nothing, and then none of the first so many stands there
abbrev pub AreSown : List PlacedSeed → ℕ → RoutingTree → Type 0
AreSown seeds m t = (k : ℕ) → k < length t.lengths.items →
    IsSown seeds t k ⊎ ((slice_index t.lengths.items k ≡ 0) × ((i : ℕ) (s : PlacedSeed) → i < m → slice_get seeds i ≡ Some s → s.place ≢ k))
