use Rattle.path_pool.proofs.Needed.{needed_live, live_needed}
use Rattle.path_pool.proofs.laws.needed_are_live.Goals as goal

pub returns : goal.returns
returns c = λ k. (
  live_needed c.args.pool.now.cells.items k,
  needed_live c.args.pool.now.cells.items c.args.pool.now.free c.args.pool.now.dead c.args.pool.now.limit k c.args.pool.now.region,
)
