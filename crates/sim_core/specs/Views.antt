-- What contracts see of the parts of a simulation.
use Rattle.std.specs.Prelude.{◌↔◌, ℕ, ◌==◌, IsTrue, List}
use Rattle.std.specs.FinSet as set
use Rattle.net_names.specs.Addresses.{AddrValue}
use Rattle.as_graph.specs.Topology.{relation}
use Rattle.policy_kinds.specs.Kinds.{label}
use Rattle.leak_round.specs.Rounds.{kept as kept_rounds}
use Rattle.rank_order.specs.Ranks.{rank_at}
use Rattle.data_trace.specs.Hops.{next_hop}
use Rattle.data_trace.specs.Watches.{IsStub, Row}
use Rattle.sim_core.specs.World.{World, has_round, kind_at, topology}
use Rattle.sim_core.specs.Kept.{IsKept, Kept}
use Rattle.sim_core.specs.Parts.{world_by}
use Rattle.sim_core.specs.Watching.{AreWatchRows, HasRows, end_at, rows_in, watch_at}
use Rattle.sim_core.specs.declared.parts.Parts.{Parts}

-- the world of the parts
abbrev pub world_seen : Parts → World
world_seen parts = world_by parts.graph parts.vrps parts.book parts.rounds parts.watched.items

-- for each round and watched address the rows of the watch
abbrev pub rows_seen : Parts → ℕ → AddrValue → List Row
rows_seen parts round addr = rows_in (watch_at parts.watches.items parts.watched.items round addr)

-- what they keep: for each round and prefix what each AS holds, the ranks, and the ends of the rows
abbrev pub kept : Parts → Kept
kept parts = record { routings = kept_rounds parts.rounds; ranks = rank_at parts.ranks; ends = λ round addr. end_at (rows_seen parts round addr) }

-- what is kept is that of the world, and the watches have the rows of all its ASes
pub record AreRight (parts : Parts) : Type 0 where
  pub is_kept : IsKept (world_seen parts) (kept parts)
  pub rows : AreWatchRows (world_seen parts) (kept_rounds parts.rounds) (rows_seen parts)

-- the same but for the routings and the ends: just the ASes without customers have rank 0, and the watches have the rows of all ASes
pub record IsCounted (parts : Parts) : Type 0 where
  pub stubs : (a : ℕ) → IsTrue (rank_at parts.ranks a == 0) ↔ IsStub (relation parts.graph) a
  pub rows : (round : ℕ) (addr : AddrValue) → IsTrue (has_round (world_seen parts) round) → IsTrue (set.contains (world_seen parts).watched addr)
      → HasRows (topology (world_seen parts)) (next_hop (world_seen parts).plan (kept_rounds parts.rounds round) addr) (λ a. label (kind_at (world_seen parts) a)) (rows_seen parts round addr)
