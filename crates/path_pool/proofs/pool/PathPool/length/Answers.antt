use Rattle.std.proofs.Common.{sym, ◌∙◌, ◌≡◌, arith}
use Rattle.std.proofs.lemmas.Grind.{common_steps}
use Rattle.path_pool.specs.Region.{cell_at}
use Rattle.path_pool.proofs.RegionLemmas.{length-list_of, len_le_live, live_inside}
use Rattle.path_pool.proofs.pool.PathPool.length.Goals as goal

pub returns-clause-value : goal.returns-clause-value
returns-clause-value c =
    let e : c.index.result.now.len ≡ (cell_at c.args.self.now.cells.items c.args.id.0).len = grind (arith, common_steps) in
    e ∙ sym (length-list_of c.args.self.now.cells.items c.args.id.0)

pub returns-clause-short : goal.returns-clause-short
returns-clause-short c =
    let e : c.index.result.now.len ≡ (cell_at c.args.self.now.cells.items c.args.id.0).len = grind (arith, common_steps) in
    omega (arith, e, len_le_live c.args.self.now.cells.items c.args.self.now.free c.args.self.now.dead c.args.self.now.limit c.args.id.0 c.args.self.now.region c.requires)

pub returns-clause-fits : goal.returns-clause-fits
returns-clause-fits c =
    let e : c.index.result.now.len ≡ (cell_at c.args.self.now.cells.items c.args.id.0).len = grind (arith, common_steps) in
    omega (
      arith,
      e,
      c.args.self.now.region.all_counted,
      c.args.self.now.region.within,
      c.args.self.now.region.limited,
      len_le_live c.args.self.now.cells.items c.args.self.now.free c.args.self.now.dead c.args.self.now.limit c.args.id.0 c.args.self.now.region c.requires,
    )

pub returns-clause-some : goal.returns-clause-some
returns-clause-some c =
    let e : c.index.result.now.len ≡ (cell_at c.args.self.now.cells.items c.args.id.0).len = grind (arith, common_steps) in
    omega (arith, e, (c.args.self.now.region.linked c.args.id.0 (live_inside c.args.self.now.cells.items c.args.id.0 c.requires)).some)
