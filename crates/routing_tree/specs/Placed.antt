-- What a tree grows by: ASes at places, their links, their policies and who announces.
use Rattle.std.specs.Prelude.{◌≡◌, ◌≢◌, ◌<◌, ℕ, IsTrue, false, Option, Some, None, List, [], ◌∷◌, All, length, slice_get, slice_index}
use Rattle.net_names.specs.declared.routes.Class.{Class}
use Rattle.net_names.specs.declared.routes.Rel.{Rel}
use Rattle.net_names.specs.declared.routes.Rel.TheVariants.{Customer}
use Rattle.net_names.specs.declared.routes.State.{State}
use Rattle.as_graph.specs.Topology.{Topology, has, relation}
use Rattle.as_graph.specs.Hierarchy.{HasNoProviderCycle, IsRank}
use Rattle.policy_laws.specs.Policy.{Policy, is_own_or_customers}
use Rattle.rank_order.specs.Ranks.{IsRankOrder}
use Rattle.stability_laws.specs.Stable.{IsLawful}
use Rattle.stability_laws.specs.declared.entry.Seed.{Seed}
use Rattle.routing_tree.specs.declared.tree.Placed.{Placed}
use Rattle.routing_tree.specs.declared.tree.PlacedSeed.{PlacedSeed}
use Rattle.routing_tree.specs.Links.{AreLinksOf}

-- the policy hands every route to customers, and to peers and providers its own and its customers' routes only, and sets no mark (Gao and Rexford 2001)
pub record HandsOnPlainly (p : Policy) : Type 0 where
  pub to_customers : (held : Class) (otc : Option ℕ) → IsTrue (p.exports held otc Customer)
  pub to_others : (held : Class) (otc : Option ℕ) (to : Rel) → to ≢ Customer → p.exports held otc to ≡ is_own_or_customers held
  pub unmarked : p.marks ≡ false

-- the graph has no provider cycle, its ASes stand in the list by rising rank, and at each place stand the links and the policy of its AS; all policies are lawful and hand routes on plainly
pub record IsPlaced {P : Type 0} (meaning : P → Policy) (g : Topology) (policy : ℕ → Policy) (p : Placed P) : Type 0 where
  pub no_cycle : HasNoProviderCycle (relation g)
  pub rank : ℕ → ℕ
  pub ranks : (a : ℕ) → IsRank (relation g) a (rank a)
  pub order : IsRankOrder (has g) rank p.ases.now
  pub links : AreLinksOf (relation g) p.ases.now p.links.now
  pub policies : (k : ℕ) (x : P) → slice_get p.policies.now k ≡ Some x → meaning x ≡ policy (slice_index p.ases.now k)
  pub lawful : (a : ℕ) → IsLawful (policy a)
  pub plainly : (a : ℕ) → HandsOnPlainly (policy a)

-- the seed of an AS that announces a path of itself alone (RFC 4271, section 5.1.2)
abbrev pub own_seed : ℕ → Seed
own_seed a = record { path = a ∷ []; otc = None }

-- the ASes at these places announce paths of themselves alone, each with the state of the prefix with it, and no others announce
pub record AreSeedsAt (g : Topology) (state : ℕ → State) (seeds : ℕ → Option Seed) (ases : List ℕ) (placed : List PlacedSeed) : Type 0 where
  pub each : All (λ s. (seeds (slice_index ases s.place) ≡ Some (own_seed (slice_index ases s.place))) × (s.state ≡ state (slice_index ases s.place))) placed
  pub complete : (k : ℕ) (s : Seed) → k < length ases → seeds (slice_index ases k) ≡ Some s → (i : ℕ) × (x : PlacedSeed) × (slice_get placed i ≡ Some x) × (x.place ≡ k)
  pub only : (a : ℕ) → has g a ≡ false → seeds a ≡ None
