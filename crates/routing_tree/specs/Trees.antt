-- Routing trees.
use Rattle.std.specs.Prelude.{◌≡◌, ◌≢◌, ◌<◌, ◌⊎◌, ℕ, true, Option, Some, None, List, length, slice_get, slice_index}
use Rattle.net_names.specs.Numbers.{last_or}
use Rattle.net_names.specs.declared.routes.State.{State}
use Rattle.as_graph.specs.Topology.{Topology, has, relation}
use Rattle.policy_laws.specs.Policy.{Policy, is_own_or_customers}
use Rattle.stability_laws.specs.declared.entry.Entry.{Entry}
use Rattle.stability_laws.specs.declared.entry.Seed.{Seed}
use Rattle.stability_laws.specs.Stable.{IsStable}
use Rattle.routing_tree.specs.declared.tree.RoutingTree.{RoutingTree}

-- the tree has so many places
pub record HasPlaces (n : ℕ) (t : RoutingTree) : Type 0 where
  pub lengths : length t.lengths.items ≡ n
  pub lows : length t.lows.items ≡ n
  pub states : length t.states.items ≡ n
  pub parents : length t.parents.items ≡ n

-- no path is too long to be one longer: each is one of distinct ASes (the bound is this program's)
abbrev pub IsShort : RoutingTree → Type 0
IsShort t = (k : ℕ) → slice_index t.lengths.items k < 4294967295

-- an announcer is its own parent; of any other AS the parent is the neighbour from which it has the entry, the second of its path (RFC 4271, section 5.1.2)
abbrev pub IsParent : List ℕ → ℕ → ℕ → Entry → Type 0
IsParent ases k parent e = ((parent ≡ k) × (slice_get e.path 1 ≡ None)) ⊎ ((parent ≢ k) × (parent < length ases) × (slice_get e.path 1 ≡ Some (slice_index ases parent)))

-- at a place of the tree stand how long the path of the entry is, whether it is an own or a customer's route, the state of the prefix with the path's origin, and the parent
pub record IsNode (state : ℕ → State) (ases : List ℕ) (t : RoutingTree) (k : ℕ) (e : Entry) : Type 0 where
  pub some : 0 < length e.path
  pub length_is : slice_index t.lengths.items k ≡ length e.path
  pub low : slice_get t.lows.items k ≡ Some (is_own_or_customers e.class)
  pub state_is : slice_get t.states.items k ≡ Some (state (last_or 0 e.path))
  pub unmarked : e.otc ≡ None
  pub parent : IsParent ases k (slice_index t.parents.items k) e

-- what is held at a place is as the tree has it: a length of 0 stands where nothing is held
abbrev pub IsHeldAt : (ℕ → State) → List ℕ → RoutingTree → ℕ → Option Entry → Type 0
IsHeldAt state ases t k None = slice_index t.lengths.items k ≡ 0
IsHeldAt state ases t k (Some e) = IsNode state ases t k e

-- the tree is that of what the ASes hold
pub record IsTreeOf (state : ℕ → State) (ases : List ℕ) (t : RoutingTree) (f : ℕ → Option Entry) : Type 0 where
  pub places : HasPlaces (length ases) t
  pub held : (k : ℕ) → k < length ases → IsHeldAt state ases t k (f (slice_index ases k))

-- the place holds something, and an own or a customer's route
pub record IsLowAt (t : RoutingTree) (k : ℕ) : Type 0 where
  pub some : 0 < slice_index t.lengths.items k
  pub low : slice_get t.lows.items k ≡ Some true

-- whoever holds an own or a customer's route announces it, or has it from a lower place that holds such a one; whoever holds another route has it from a place that holds such a one, or from a higher place
pub record ParentsComeFirst (t : RoutingTree) (n : ℕ) : Type 0 where
  pub low : (k : ℕ) → k < n → IsLowAt t k → (slice_index t.parents.items k ≡ k) ⊎ ((slice_index t.parents.items k < k) × IsLowAt t (slice_index t.parents.items k))
  pub high : (k : ℕ) → k < n → 0 < slice_index t.lengths.items k → slice_get t.lows.items k ≢ Some true →
      IsLowAt t (slice_index t.parents.items k) ⊎ ((k < slice_index t.parents.items k) × (0 < slice_index t.lengths.items (slice_index t.parents.items k)))

-- the tree is that of the one stable routing of the prefix by these policies and with these seeds (Gao and Rexford 2001)
pub record IsGrown (g : Topology) (policy : ℕ → Policy) (state : ℕ → State) (seeds : ℕ → Option Seed) (ases : List ℕ) (t : RoutingTree) : Type 0 where
  pub routing : ℕ → Option Entry
  pub stable : IsStable (record { has = has g; relation = relation g; policy = policy; state = state }) seeds routing
  pub tree : IsTreeOf state ases t routing
  pub order : ParentsComeFirst t (length ases)
