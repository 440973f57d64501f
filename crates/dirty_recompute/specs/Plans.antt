-- When the changes of a table can be planned, and what is planned.
use Rattle.std.specs.Prelude.{◌≡◌, ℕ, ◌+◌, ◌*◌, ◌≤◌, false, true, None}
use Rattle.net_names.specs.declared.routes.State.{State}
use Rattle.net_names.specs.Numbers.{occurs}
use Rattle.net_names.specs.Prefixes.{PrefixValue}
use Rattle.policy_laws.specs.Policy.{Policy}
use Rattle.as_graph.specs.Hierarchy.{HasNoProviderCycle, IsRank}
use Rattle.as_graph.specs.Topology.{relation, has, as_count}
use Rattle.path_pool.specs.declared.pool.PathPool.{PathPool}
use Rattle.path_pool.specs.Pool.{holds_of, count_of, live_count, limit_of}
use Rattle.rank_order.specs.Plans.{rank_after, IsLastPlan}
use Rattle.stability_laws.specs.declared.world.World.{World}
use Rattle.stability_laws.specs.Stable.{IsRight}
use Rattle.stability_laws.specs.World.{setting_in}
use Rattle.route_choice.specs.declared.counts.TheConstants.{MOST_COUNTED}
use Rattle.route_choice.specs.declared.overlay.Overlay.{Overlay}
use Rattle.route_choice.specs.declared.table.Table.{Table}
use Rattle.route_choice.specs.Resources.{AreEntriesLive, AreSeedsLive, Keeps}
use Rattle.route_choice.specs.Routings.{routing_of, seeds_of, table_routing}
use Rattle.route_choice.specs.Tables.{held_at, overlay_uses, prefix_of, seed_at, table_uses, HasRoomForChanges}
use Rattle.dirty_recompute.specs.declared.planned_ranks.PlannedRanks.{PlannedRanks}
use Rattle.dirty_recompute.specs.declared.prefix_edit.PrefixEdit.{PrefixEdit}
use Rattle.dirty_recompute.specs.Exact.{IsExact, AreEnough}
use Rattle.dirty_recompute.specs.Resources.{has_change, FewNewCells}

-- the changes of a table can be planned: after the edit the graph has no provider cycle, and the planned ranks are its ranks, by the last plan of them; the table holds entries only for its ASes and for touched ones, and is right at all others; seeds stand only at its ASes; the table owns a hold for each entry, paths of entries and seeds are live, no count is above 4,000,000,000, and the pool has room for two cells more for each AS
pub record CanPlan {P V : Type 0} (meaning : P → Policy) (state_of : V → PrefixValue → ℕ → State) (w : World P V) (planned : PlannedRanks) (edit : PrefixEdit) (table : Table) (pool : PathPool) : Type 0 where
  pub no_cycle : HasNoProviderCycle (relation w.graph.now)
  pub last : IsLastPlan planned.ranks.now planned.plan.now
  pub ranks : (a : ℕ) → IsRank (relation w.graph.now) a (rank_after planned.ranks.now planned.plan.now a)
  pub entries : (b : ℕ) → has w.graph.now b ≡ false → occurs b edit.touched.now ≡ false → held_at table b ≡ None
  pub right : (b : ℕ) → has w.graph.now b ≡ true → occurs b edit.touched.now ≡ false →
      IsRight (setting_in meaning state_of w (prefix_of table)) (seeds_of pool edit.seeds.now) (table_routing pool table) b
  pub seeds : (b : ℕ) → has w.graph.now b ≡ false → seed_at edit.seeds.now b ≡ None
  pub seeds_live : AreSeedsLive pool edit.seeds.now
  pub entries_live : AreEntriesLive pool table
  pub held : (k : ℕ) → table_uses table k ≤ holds_of pool k
  pub counts : (k : ℕ) → count_of pool k ≤ MOST_COUNTED
  pub room : live_count pool + 2 * as_count w.graph.now ≤ limit_of pool

-- these are the changes of a table: with them in place it stands for the one stable routing, for which it has room, and they are just where the two differ; they took no more steps than they may; what was live keeps its path, the changes own a hold for each of their entries, and for each of these at most one cell more is live
pub record IsPlanned {P V : Type 0} (meaning : P → Policy) (state_of : V → PrefixValue → ℕ → State) (w : World P V) (edit : PrefixEdit) (table table' : Table) (pool pool' : PathPool) (first last : ℕ) (o : Overlay) : Type 0 where
  pub exact : IsExact (setting_in meaning state_of w (prefix_of table)) (seeds_of pool edit.seeds.now) (table_routing pool table) (routing_of pool' table' o) (has_change o)
  pub enough : AreEnough (relation w.graph.now) (λ b. occurs b edit.touched.now) (has_change o) first last
  pub spare : HasRoomForChanges table' o
  pub holds : (k : ℕ) → holds_of pool' k ≡ holds_of pool k + overlay_uses o k
  pub cells : FewNewCells pool pool' o
  pub kept : Keeps pool pool' edit.seeds.now
