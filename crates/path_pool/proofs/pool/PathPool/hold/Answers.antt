use Rattle.std.proofs.Common.{◌+◌, ap, sym, subst, List}
use Rattle.path_pool.specs.declared.pool.Cell.{Cell}
use Rattle.path_pool.specs.Region.{GainsHold}
use Rattle.path_pool.proofs.HoldLemmas.{rehold_gains}
use Rattle.path_pool.proofs.pool.PathPool.hold.Goals as goal

pub returns-clause-held : goal.returns-clause-held
returns-clause-held c =
    let xs : List Cell = c.args.self.now.cells.items in
    subst (λ ys. GainsHold xs ys c.args.id.0) (sym c.set_count.ensures.cells)
    (rehold_gains xs c.args.self.now.free c.args.self.now.dead c.args.self.now.limit c.args.id.0 (c.count-count.result + 1) c.args.self.now.region c.requires.live (ap (λ n. n + 1) c.count-count.ensures))
