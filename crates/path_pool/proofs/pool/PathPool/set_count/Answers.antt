use Rattle.std.proofs.Common.{◌≡◌, ℕ, List, set, sym, subst}
use Rattle.path_pool.specs.declared.pool.Cell.{Cell}
use Rattle.path_pool.specs.Region.{IsRegion, cell_at}
use Rattle.path_pool.proofs.RegionLemmas.{cell_read, live_inside}
use Rattle.path_pool.proofs.HoldLemmas.{rehold_region}
use Rattle.path_pool.proofs.pool.PathPool.set_count.Goals as goal

pub invariant_of-self-clause-region : goal.invariant_of-self-clause-region
invariant_of-self-clause-region c =
    let xs : List Cell = c.args.self.now.cells.items in
    let i : ℕ = c.args.id.0 in
    let e : c.index_mut-cell.result.now ≡ cell_at xs i = cell_read xs i c.index_mut-cell.result.now (live_inside xs i c.requires.live) c.index_mut-cell.ensures.value in
    subst (λ (v : Cell). IsRegion (set xs i (record v { count = c.args.count })) c.args.self.now.free c.args.self.now.dead c.args.self.now.limit) (sym e)
    (rehold_region xs c.args.self.now.free c.args.self.now.dead c.args.self.now.limit i c.args.count c.args.self.now.region c.requires.live c.requires.some c.requires.enough)
