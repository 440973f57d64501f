-- How a pool grows, table by table.
use Rattle.std.specs.Prelude.{◌≡◌, ℕ, ◌+◌, ◌*◌, ◌≤◌}
use Rattle.path_pool.specs.declared.pool.PathPool.{PathPool}
use Rattle.path_pool.specs.Pool.{IsLive, list_of, count_of, live_count, limit_of}
use Rattle.as_graph.specs.declared.build.TheConstants.{MOST_ASES}
use Rattle.route_choice.specs.declared.counts.TheConstants.{MOST_COUNTED}

-- each path that was live is live, with the same numbers
pub record KeepsPaths (old new : PathPool) : Type 0 where
  pub live : (k : ℕ) → IsLive old k → IsLive new k
  pub lists : (k : ℕ) → IsLive old k → list_of new k ≡ list_of old k

-- there are at most n live cells more, no count rises by more than n, and the limit is as before
pub record GrowsBy (old new : PathPool) (n : ℕ) : Type 0 where
  pub cells : live_count new ≤ live_count old + n
  pub counts : (k : ℕ) → count_of new k ≤ count_of old k + n
  pub limit : limit_of new ≡ limit_of old

-- the pool has room for so many more tables, each of at most 150,000 entries
pub record HasRoomFor (pool : PathPool) (tables : ℕ) : Type 0 where
  pub cells : live_count pool + MOST_ASES * tables + MOST_ASES ≤ limit_of pool
  pub counts : (k : ℕ) → count_of pool k + MOST_ASES * tables ≤ MOST_COUNTED
