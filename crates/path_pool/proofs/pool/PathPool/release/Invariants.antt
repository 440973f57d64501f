use Rattle.std.proofs.Common.{◌≡◌, ◌≤◌, cond}
use Rattle.path_pool.specs.Region.{cell_at}
use Rattle.path_pool.proofs.ReleaseLemmas.{IsReleasing}
use Rattle.path_pool.proofs.pool.PathPool.release.Given as goal

abbrev pub invariant-cells : goal.invariant-cells
invariant-cells l = record {
  releasing : IsReleasing l.fn.self.cells.items l.self.cells.items l.fn.id.0 l.at l.more;
  limit : l.self.limit ≡ l.fn.self.limit;
  spare : l.before ≤ l.self.dead;
  room : l.self.room ≡ l.fn.self.room;
}

abbrev pub decreases-cells : goal.decreases-cells
decreases-cells l = cond l.more (cell_at l.self.cells.items l.at).len 0
