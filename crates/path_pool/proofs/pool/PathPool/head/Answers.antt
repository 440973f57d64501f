use Rattle.std.proofs.Common.{sym, ◌∙◌, ◌≡◌, ◌<◌, ap, arith}
use Rattle.path_pool.specs.declared.pool.Cell.{Cell}
use Rattle.path_pool.specs.Region.{cell_at}
use Rattle.path_pool.proofs.RegionLemmas.{cell_read, live_inside}
use Rattle.path_pool.proofs.GrowLemmas.{first-list_of}
use Rattle.path_pool.proofs.pool.PathPool.head.Goals as goal

pub returns-clause-first : goal.returns-clause-first
returns-clause-first c =
    let some : 0 < (cell_at c.args.self.now.cells.items c.args.id.0).len = omega (arith, (c.args.self.now.region.linked c.args.id.0 (live_inside c.args.self.now.cells.items c.args.id.0 c.requires)).some) in
    let e : c.index.result.now.head ≡ (cell_at c.args.self.now.cells.items c.args.id.0).head =
    ap (λ (c : Cell). c.head) (cell_read c.args.self.now.cells.items c.args.id.0 c.index.result.now (live_inside c.args.self.now.cells.items c.args.id.0 c.requires) c.index.ensures) in
    e ∙ sym (first-list_of c.args.self.now.cells.items c.args.id.0 some)
