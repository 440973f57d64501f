use Rattle.std.proofs.Common.{arith}
use Rattle.path_pool.proofs.RegionLemmas.{length-list_of, live_inside}
use Rattle.path_pool.proofs.laws.paths_are_not_empty.Goals as goal

pub returns : goal.returns
returns c = λ k live.
    omega (arith, length-list_of c.args.pool.now.cells.items k, (c.args.pool.now.region.linked k (live_inside c.args.pool.now.cells.items k live)).some)
