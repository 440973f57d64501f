-- Tables that are made in a pool, or moved to it.
use Rattle.std.specs.Prelude.{◌≡◌, ℕ, ◌+◌, ◌-◌, ◌*◌, ◌^◌, ◌<◌, ◌≤◌, List, length}
use Rattle.as_graph.specs.declared.build.TheConstants.{MOST_ASES}
use Rattle.net_names.specs.Prefixes.{PrefixValue}
use Rattle.path_pool.specs.declared.pool.PathPool.{PathPool}
use Rattle.path_pool.specs.Pool.{holds_of, limit_of, live_count}
use Rattle.policy_laws.specs.Policy.{Policy}
use Rattle.stability_laws.specs.Plans.{Plan, prefixes_of}
use Rattle.three_pass.specs.Scratches.{IsScratch}
use Rattle.three_pass.specs.Ways.{IsWay}
use Rattle.route_choice.specs.declared.overlay.Overlay.{Overlay}
use Rattle.route_choice.specs.declared.round_tables.RoundTables.{RoundTables}
use Rattle.route_choice.specs.declared.table.Table.{Table}
use Rattle.route_choice.specs.Resources.{AreEntriesLive}
use Rattle.route_choice.specs.RoundTables.{round_routing, tables_uses}
use Rattle.route_choice.specs.Routings.{table_routing}
use Rattle.route_choice.specs.Tables.{prefix_of, table_uses}
use Rattle.leak_round.specs.declared.announced.Announced.{Announced}
use Rattle.leak_round.specs.declared.building.Building.{Building}
use Rattle.leak_round.specs.declared.limits.TheConstants.{MAX_CELLS, MOST_ROUNDS}
use Rattle.leak_round.specs.Announced.{announced_uses, AreAnnounced}
use Rattle.leak_round.specs.Entries.{HasEntries, of_round, of_rounds}
use Rattle.leak_round.specs.Growth.{GrowsBy, KeepsPaths}
use Rattle.leak_round.specs.Limits.{IsWithinLimits}
use Rattle.leak_round.specs.Tables.{kept_in, entry_uses, AreFull, AreRoundsFull}

-- rounds can stand on the pool: it has just the holds of the tables and of the announcements of the plan, which is within the limits
pub record CanStand (pool : PathPool) (plan : Plan) (xs : List Announced) (rounds : List RoundTables) : Type 0 where
  pub announced : AreAnnounced pool plan xs
  pub full : AreRoundsFull pool plan rounds
  pub holds : (k : ℕ) → holds_of pool k ≡ entry_uses rounds k + announced_uses xs k
  pub limits : IsWithinLimits plan
  pub few : length rounds ≤ MOST_ROUNDS
  pub cells : limit_of pool ≡ MAX_CELLS

-- tables of the next round can be made: those of all earlier rounds are there, the next has a number of 32 bits, the way is one through the world, and the overlay is for its course
pub record CanMake {P V : Type 0} (meaning : P → Policy) (x : Building P V) (pool : PathPool) (earlier : List RoundTables) (scratch : Overlay) : Type 0 where
  pub way : IsWay meaning x.world.now x.way.now
  pub scratch_is : IsScratch x.way.now.course.now scratch
  pub announced : AreAnnounced pool x.plan.now x.announced.now
  pub earlier_full : AreRoundsFull pool x.plan.now earlier
  pub number : length earlier + 1 < 2 ^ 32

-- the table of the prefix stands in the pool, which has a hold more for each entry and keeps its paths: at most one cell more is live for each entry
pub record IsTableMade (old new : PathPool) (prefix : PrefixValue) (t : Table) : Type 0 where
  pub prefix_is : prefix_of t ≡ prefix
  pub live : AreEntriesLive new t
  pub holds : (k : ℕ) → holds_of new k ≡ holds_of old k + table_uses t k
  pub cells : HasEntries (table_routing new t) (live_count new - live_count old)
  pub keeps : KeepsPaths old new
  pub grows : GrowsBy old new MOST_ASES
  pub small : (k : ℕ) → table_uses t k ≤ MOST_ASES

-- so do the tables of a round, one for each prefix of the plan
pub record IsRoundMade (old new : PathPool) (plan : Plan) (tables : RoundTables) : Type 0 where
  pub full : AreFull new plan tables
  pub holds : (k : ℕ) → holds_of new k ≡ holds_of old k + tables_uses tables k
  pub cells : HasEntries (of_round (round_routing new tables)) (live_count new - live_count old)
  pub keeps : KeepsPaths old new
  pub grows : GrowsBy old new (MOST_ASES * length (prefixes_of plan))

-- and so do the tables of so many rounds
pub record AreRoundsMade (old new : PathPool) (plan : Plan) (number : ℕ) (rounds : List RoundTables) : Type 0 where
  pub count : length rounds ≡ number
  pub full : AreRoundsFull new plan rounds
  pub holds : (k : ℕ) → holds_of new k ≡ holds_of old k + entry_uses rounds k
  pub cells : HasEntries (of_rounds (kept_in new rounds)) (live_count new - live_count old)
  pub keeps : KeepsPaths old new
  pub grows : GrowsBy old new (MOST_ASES * (number * length (prefixes_of plan)))
