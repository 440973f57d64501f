-- How far a tree has grown.
use Rattle.std.specs.Prelude.{◌≡◌, ◌<◌, ◌≤◌, ℕ, Option, Some, List, length, option_map, slice_get, slice_index, take}
use Rattle.net_names.specs.declared.routes.State.{State}
use Rattle.as_graph.specs.Topology.{Topology, has, relation}
use Rattle.policy_laws.specs.Policy.{Policy}
use Rattle.stability_laws.specs.declared.entry.Entry.{Entry}
use Rattle.stability_laws.specs.declared.entry.Seed.{Seed}
use Rattle.stability_laws.specs.Entries.{seed_entry}
use Rattle.stability_laws.specs.Offers.{Setting}
use Rattle.three_pass.specs.Progress.{AfterUp, AfterWhole}
use Rattle.routing_tree.specs.declared.tree.Placed.{Placed}
use Rattle.routing_tree.specs.declared.tree.RoutingTree.{RoutingTree}
use Rattle.routing_tree.specs.Placed.{IsPlaced, own_seed}
use Rattle.routing_tree.specs.Trees.{HasPlaces, IsHeldAt, IsTreeOf, ParentsComeFirst}

-- what a tree is grown for: a graph, the policies, the state of the prefix with each origin, and who announces it
pub record Case : Type 0 where
  pub graph : Topology
  pub policy : ℕ → Policy
  pub state : ℕ → State
  pub seeds : ℕ → Option Seed

-- what stability reads of it
abbrev pub setting_of : Case → Setting
setting_of c = record { has = has c.graph; relation = relation c.graph; policy = c.policy; state = c.state }

-- what the tree grows by is of this graph and these policies, and each announced path is the announcer alone
pub record IsCaseOf {P : Type 0} (meaning : P → Policy) (c : Case) (p : Placed P) : Type 0 where
  pub placed : IsPlaced meaning c.graph c.policy p
  pub alone : (a : ℕ) (s : Seed) → c.seeds a ≡ Some s → s ≡ own_seed a

-- each path begins with the AS that holds it (RFC 4271, section 5.1.2)
abbrev pub BeginWithHolders : (ℕ → Option Entry) → Type 0
BeginWithHolders f = (a : ℕ) (e : Entry) → f a ≡ Some e → slice_get e.path 0 ≡ Some a

-- upwards: the ASes at the first so many places hold what they are right with by their customers' offers, and of the others the announcers hold what they announce
pub record IsUpTo (c : Case) (ases : List ℕ) (i : ℕ) (t : RoutingTree) : Type 0 where
  pub routing : ℕ → Option Entry
  pub so_far : AfterUp (setting_of c) c.seeds (take i ases) routing
  pub begins : BeginWithHolders routing
  pub places : HasPlaces (length ases) t
  pub visited : (k : ℕ) → k < i → IsHeldAt c.state ases t k (routing (slice_index ases k))
  pub ahead : (k : ℕ) → i ≤ k → k < length ases → IsHeldAt c.state ases t k (option_map seed_entry (c.seeds (slice_index ases k)))
  pub order : ParentsComeFirst t (length ases)

-- downwards: all ASes but those at the first so many places hold what they are right with
pub record IsDownTo (c : Case) (ases : List ℕ) (i : ℕ) (t : RoutingTree) : Type 0 where
  pub routing : ℕ → Option Entry
  pub so_far : AfterWhole (setting_of c) c.seeds (take i ases) routing
  pub begins : BeginWithHolders routing
  pub tree : IsTreeOf c.state ases t routing
  pub order : ParentsComeFirst t (length ases)
