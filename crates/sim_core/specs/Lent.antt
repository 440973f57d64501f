-- What a world lends, and what its routings are in it.
use Rattle.std.specs.Prelude.{◌≡◌, ℕ, ◌-◌, true, Option, Some, slice_get}
use Rattle.std.specs.FinMap as fin
use Rattle.std.specs.Ordering.{nat_cmp}
use Rattle.net_names.specs.Prefixes.{PrefixValue}
use Rattle.as_graph.specs.Hierarchy.{HasNoProviderCycle, IsRank}
use Rattle.as_graph.specs.Topology.{Topology, relation}
use Rattle.policy_kinds.specs.Kinds.{kind_policy}
use Rattle.policy_kinds.specs.declared.kind.Kind.{Kind}
use Rattle.origin_validation.specs.Judging.{state_of}
use Rattle.stability_laws.specs.Book.{PolicyBook, policy_at}
use Rattle.stability_laws.specs.Plans.{has_prefix}
use Rattle.stability_laws.specs.Rounds.{seeds_of}
use Rattle.stability_laws.specs.Stable.{IsStable}
use Rattle.stability_laws.specs.World.{setting}
use Rattle.stability_laws.specs.declared.entry.Entry.{Entry}
use Rattle.stability_laws.specs.declared.entry.Seed.{Seed}
use Rattle.sim_core.specs.Kept.{IsKept, Kept}
use Rattle.sim_core.specs.World.{HasCycle, World, graph_of, has_round, kind_at, setting_of, topology}

-- a graph is that of a world, whichever room it has
abbrev pub IsGraphOf : World → Topology → Type 0
IsGraphOf w g = graph_of g.links g.marked ≡ topology w

-- a book gives each AS the policy that it has in a world
abbrev pub IsBookOf : World → PolicyBook Kind → Type 0
IsBookOf w book = (a : ℕ) → policy_at book a ≡ kind_at w a

-- the seeds of a round and a prefix, by what is kept of the round before (RFC 7908, section 3)
abbrev pub seeds_kept : World → Kept → ℕ → PrefixValue → ℕ → Option Seed
seeds_kept w k round prefix = seeds_of w.plan round prefix (k.routings (round - 1) prefix)

-- the path of each seed starts with its AS (RFC 4271, section 5.1.2)
abbrev pub StartAtOwnAs : fin.FinMap nat_cmp Seed → Type 0
StartAtOwnAs seeds = (a : ℕ) (seed : Seed) → fin.get seeds a ≡ Some seed → slice_get seed.path 0 ≡ Some a

-- what stability reads of a world's graph, book and payloads is what it reads of the world
abbrev pub LentIsSetting : Type 0
LentIsSetting = (w : World) (g : Topology) (book : PolicyBook Kind) → IsGraphOf w g → IsBookOf w book
    → (prefix : PrefixValue) → setting kind_policy g book (state_of w.payloads prefix) ≡ setting_of w prefix

-- where a world has no provider cycle, its graph has none (Gao and Rexford 2001)
abbrev pub LentHasNoCycle : Type 0
LentHasNoCycle = (w : World) (g : Topology) → IsGraphOf w g → (HasCycle w → ⊥) → HasNoProviderCycle (relation g)

-- the ranks that are kept of a world are those of its graph (Gao and Rexford 2001)
abbrev pub LentIsRanked : Type 0
LentIsRanked = (w : World) (g : Topology) (k : Kept) → IsGraphOf w g → IsKept w k → (a : ℕ) → IsRank (relation g) a (k.ranks a)

-- the routing that is kept of a round and a prefix that are there is stable for the seeds of the round (Gao and Rexford 2001)
abbrev pub KeptIsStable : Type 0
KeptIsStable = (w : World) (k : Kept) (round : ℕ) (prefix : PrefixValue) → IsKept w k → has_round w round ≡ true
    → has_prefix w.plan prefix ≡ true → IsStable (setting_of w prefix) (seeds_kept w k round prefix) (k.routings round prefix)

-- where there is no provider cycle, no other routing is (Gao and Rexford 2001)
abbrev pub NoOtherIsStable : Type 0
NoOtherIsStable = (w : World) (k : Kept) (round : ℕ) (prefix : PrefixValue) → (HasCycle w → ⊥) → IsKept w k
    → has_round w round ≡ true → has_prefix w.plan prefix ≡ true → (other : ℕ → Option Entry)
    → IsStable (setting_of w prefix) (seeds_kept w k round prefix) other → (a : ℕ) → other a ≡ k.routings round prefix a
