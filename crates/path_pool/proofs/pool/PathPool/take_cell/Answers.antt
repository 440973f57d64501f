use Rattle.std.proofs.Common.{◌≡◌, ℕ, List}
use Rattle.path_pool.specs.declared.pool.Cell.{Cell}
use Rattle.path_pool.specs.Region.{cell_at}
use Rattle.path_pool.proofs.RegionLemmas.{cell_read, take_region_at}
use Rattle.path_pool.proofs.pool.PathPool.take_cell.Goals as goal

pub invariant_of-self-clause-region : goal.invariant_of-self-clause-region
invariant_of-self-clause-region c =
    let xs : List Cell = c.args.self.now.cells.items in
    let i : ℕ = c.args.self.now.free in
    let y : Cell = record { head = c.args.head; tail = c.args.tail; len = c.args.len; count = 1; last = c.args.last } in
    let e : c.index.result.now ≡ cell_at xs i = cell_read xs i c.index.result.now (c.args.self.now.region.first_inside c.requires.spare) c.index.ensures in
    take_region_at xs i c.args.self.now.dead c.args.self.now.limit y c.index.result.now c.args.self.now.region c.requires.spare c.requires.follows e
