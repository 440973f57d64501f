use Rattle.std.proofs.Common.{◌+◌, List, refl}
use Rattle.path_pool.specs.declared.pool.Cell.{Cell}
use Rattle.path_pool.proofs.RegionLemmas.{drop_region}
use Rattle.path_pool.proofs.pool.PathPool.free_cell.Goals as goal

pub invariant_of-self-clause-region : goal.invariant_of-self-clause-region
invariant_of-self-clause-region c =
    let xs : List Cell = c.args.self.now.cells.items in
    let y : Cell = record { head = c.args.head; tail = c.args.self.now.free; len = c.args.self.now.dead + 1; count = 0; last = c.args.head } in
    drop_region xs c.args.self.now.free c.args.self.now.dead c.args.self.now.limit c.args.id.0 y c.args.self.now.region c.requires.live c.requires.none refl refl refl
