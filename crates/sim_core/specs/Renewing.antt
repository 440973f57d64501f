-- Watches that can be taken to an edited world.
use Rattle.std.specs.Prelude.{◌≡◌, ◌≤◌, ℕ, suc, Option, Some, List, slice_get}
use Rattle.as_graph.specs.Topology.{Topology, as_count}
use Rattle.net_names.specs.Addresses.{AddrValue}
use Rattle.net_names.specs.Prefixes.{PrefixValue}
use Rattle.policy_kinds.specs.Kinds.{label}
use Rattle.policy_kinds.specs.declared.kind.Kind.{Kind}
use Rattle.stability_laws.specs.Book.{PolicyBook, policy_at}
use Rattle.stability_laws.specs.Plans.{Plan}
use Rattle.stability_laws.specs.declared.entry.Entry.{Entry}
use Rattle.data_trace.specs.Hops.{next_hop}
use Rattle.data_trace.specs.Kept.{KeepsGroups, KeepsHops}
use Rattle.data_trace.specs.Views.{spare_of}
use Rattle.data_trace.specs.Watches.{Row}
use Rattle.data_trace.specs.declared.watch.Watch.{Watch}
use Rattle.sim_core.specs.declared.watching.RoundWatches.{RoundWatches}

-- each watch of a round can keep all ASes of the graph without memory
abbrev pub AreRoomy : Topology → RoundWatches → Type 0
AreRoomy g one = (place : ℕ) (w : Watch) → slice_get one.watches.items place ≡ Some w → as_count g ≤ spare_of w

-- so can those of each round
abbrev pub AreRoundsRoomy : Topology → List RoundWatches → Type 0
AreRoundsRoomy g all = (before : ℕ) (one : RoundWatches) → slice_get all before ≡ Some one → AreRoomy g one

-- what is seen of a watch is right but at these ASes: where neither entries, announcements nor policy, customers or presence changed
pub record IsRightBut (g : Topology) (plan : Plan) (held : PrefixValue → ℕ → Option Entry) (book : PolicyBook Kind) (changed ends : List ℕ) (s : AddrValue × List Row) : Type 0 where
  pub hops : KeepsHops g (next_hop plan held s.0) changed ends s.1
  pub groups : KeepsGroups g (λ a. label (policy_at book a)) ends s.1

-- so is each of a round
abbrev pub CanFollow : Topology → Plan → (PrefixValue → ℕ → Option Entry) → PolicyBook Kind → List ℕ → List ℕ → List (AddrValue × List Row) → Type 0
CanFollow g plan held book changed ends seen = (place : ℕ) (s : AddrValue × List Row) → slice_get seen place ≡ Some s → IsRightBut g plan held book changed ends s

-- so is each of all rounds, of which the first of the list is round 1
abbrev pub CanAllFollow : Topology → Plan → (ℕ → PrefixValue → ℕ → Option Entry) → PolicyBook Kind → (ℕ → List ℕ) → List ℕ → List (List (AddrValue × List Row)) → Type 0
CanAllFollow g plan held book changed ends all = (before : ℕ) (seen : List (AddrValue × List Row)) → slice_get all before ≡ Some seen → CanFollow g plan (held (suc before)) book (changed (suc before)) ends seen
