use Rattle.std.proofs.Common.{◌≡◌, ◌++◌}
use Rattle.path_pool.specs.Region.{walk, list_of}
use Rattle.path_pool.proofs.GrowLemmas.{IsWalking}
use Rattle.path_pool.proofs.pool.PathPool.copy_out.Given as goal

abbrev pub invariant-cells : goal.invariant-cells
invariant-cells l = record {
  walking : IsWalking l.self.cells.items l.left l.at;
  same : l.path ++ walk l.self.cells.items l.left l.at ≡ list_of l.self.cells.items l.fn.id.0;
}

abbrev pub decreases-cells : goal.decreases-cells
decreases-cells l = l.left
