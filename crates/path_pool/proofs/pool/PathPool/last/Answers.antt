use Rattle.std.proofs.Common.{◌∙◌, ap, sym}
use Rattle.path_pool.specs.declared.pool.Cell.{Cell}
use Rattle.path_pool.proofs.RegionLemmas.{cell_read, live_inside}
use Rattle.path_pool.proofs.GrowLemmas.{last_or-list_of}
use Rattle.path_pool.proofs.pool.PathPool.last.Goals as goal

pub returns : goal.returns
returns c =
    let xs = c.args.self.now.cells.items in
    ap (λ (c : Cell). c.last) (cell_read xs c.args.id.0 c.index.result.now (live_inside xs c.args.id.0 c.requires) c.index.ensures)
    ∙ sym (last_or-list_of xs c.args.self.now.free c.args.self.now.dead c.args.self.now.limit c.args.id.0 c.args.self.now.region c.requires)
