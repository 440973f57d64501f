use Rattle.sim_core.specs.declared.errors.QueryError.TheVariants.{Memory}
use Rattle.sim_core.proofs.Replies.{not_answered}
use Rattle.sim_core.proofs.sim.Sim.put_ranks.Goals as goal

pub returns-in_err-put_ranks : goal.returns-in_err-put_ranks
returns-in_err-put_ranks c = not_answered _ _ _ _ Memory c.from_residual.result c.from_residual.ensures.1 tt c.in_err-put_ranks.ensures.err
