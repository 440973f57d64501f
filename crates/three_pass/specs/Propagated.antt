-- What the propagation of one prefix needs and makes.
use Rattle.std.specs.Prelude.{◌≡◌, ◌+◌, ◌*◌, ◌≤◌, ℕ, Option}
use Rattle.net_names.specs.declared.routes.State.{State}
use Rattle.net_names.specs.Prefixes.{PrefixValue as Prefix}
use Rattle.as_graph.specs.Topology.{relation, as_count}
use Rattle.as_graph.specs.Prelude.{HasNoProviderCycle}
use Rattle.policy_laws.specs.Policy.{Policy}
use Rattle.path_pool.specs.declared.pool.PathPool.{PathPool}
use Rattle.path_pool.specs.Pool.{holds_of, count_of, live_count, limit_of}
use Rattle.stability_laws.specs.declared.entry.Entry.{Entry}
use Rattle.stability_laws.specs.declared.world.World.{World}
use Rattle.stability_laws.specs.Prelude.{IsStable, setting_in}
use Rattle.route_choice.specs.declared.counts.TheConstants.{MOST_COUNTED}
use Rattle.route_choice.specs.declared.seeds.SeedIds.{SeedIds}
use Rattle.route_choice.specs.declared.table.Table.{Table}
use Rattle.route_choice.specs.Resources.{AreEntriesLive, AreSeedsLive}
use Rattle.route_choice.specs.Routings.{seeds_of, table_routing}
use Rattle.route_choice.specs.Tables.{prefix_of, table_uses}
use Rattle.three_pass.specs.Spending.{FewNewCells}

-- the graph has no provider cycle, the seeds' paths are live, no count is above 4,000,000,000, and the pool's limit leaves two cells for each AS
pub record CanPropagate {P V : Type 0} (w : World P V) (own : SeedIds) (pool : PathPool) : Type 0 where
  pub no_cycle : HasNoProviderCycle (relation w.graph.now)
  pub seeds : AreSeedsLive pool own
  pub counts : (k : ℕ) → count_of pool k ≤ MOST_COUNTED
  pub room : live_count pool + 2 * as_count w.graph.now ≤ limit_of pool

-- the table has the prefix, its routing is the one stable routing of the prefix with these seeds, and it owns one hold for each of its entries, for each of which at most one cell more is live (Gao and Rexford 2001)
pub record IsPropagated {P V : Type 0} (meaning : P → Policy) (state_of : V → Prefix → ℕ → State) (w : World P V) (at : Prefix) (seeds : SeedIds) (old new : PathPool) (t : Table) : Type 0 where
  pub prefix : prefix_of t ≡ at
  pub stable : IsStable (setting_in meaning state_of w at) (seeds_of old seeds) (table_routing new t)
  pub only : (other : ℕ → Option Entry) → IsStable (setting_in meaning state_of w at) (seeds_of old seeds) other → (a : ℕ) → other a ≡ table_routing new t a
  pub cells : FewNewCells old new (table_routing new t)
  pub holds : (k : ℕ) → holds_of new k ≡ holds_of old k + table_uses t k
  pub live : AreEntriesLive new t
