-- What is left of a pool when holds are given back.
use Rattle.std.specs.Prelude.{◌≡◌, ℕ, ◌≤◌}
use Rattle.path_pool.specs.declared.pool.PathPool.{PathPool}
use Rattle.path_pool.specs.Pool.{IsLive, list_of, count_of, live_count, spare_of, limit_of}

-- No cell becomes live, each that stays live keeps its path, no count rises, and no spare cell is lost.
pub record GivesBack (old new : PathPool) : Type 0 where
  pub was_live : (k : ℕ) → IsLive new k → IsLive old k
  pub lists : (k : ℕ) → IsLive new k → list_of new k ≡ list_of old k
  pub counts : (k : ℕ) → count_of new k ≤ count_of old k
  pub live : live_count new ≤ live_count old
  pub spare : spare_of old ≤ spare_of new
  pub limit : limit_of new ≡ limit_of old
