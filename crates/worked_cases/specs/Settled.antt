-- A table that has the stable routing of the prefix that one AS announces.
use Rattle.std.specs.Prelude.{◌≡◌, ◌≢◌, ℕ, ◌≤◌, None}
use Rattle.path_pool.specs.declared.pool.PathPool.{PathPool}
use Rattle.path_pool.specs.Pool.{count_of, holds_of}
use Rattle.stability_laws.specs.Offers.{Setting}
use Rattle.stability_laws.specs.Stable.{IsStable}
use Rattle.route_choice.specs.declared.seeds.SeedIds.{SeedIds}
use Rattle.route_choice.specs.declared.table.Table.{Table}
use Rattle.route_choice.specs.Resources.{AreEntriesLive, AreSeedsLive}
use Rattle.route_choice.specs.Routings.{seeds_of, table_routing}
use Rattle.route_choice.specs.Tables.{seed_at, table_uses}

-- the table has the stable routing of the seeds, which only the origin has, and the pool has its paths and the seeds', each needed by few
pub record IsSettled (w : Setting) (origin : ℕ) (pool : PathPool) (seeds : SeedIds) (table : Table) : Type 0 where
  pub stable : IsStable w (seeds_of pool seeds) (table_routing pool table)
  pub only : (a : ℕ) → a ≢ origin → seed_at seeds a ≡ None
  pub seeds_live : AreSeedsLive pool seeds
  pub entries_live : AreEntriesLive pool table
  pub held : (k : ℕ) → table_uses table k ≤ holds_of pool k
  pub few : (k : ℕ) → count_of pool k ≤ 1000000
