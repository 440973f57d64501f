use Rattle.std.proofs.Common.{refl}
use Rattle.sim_core.specs.declared.errors.QueryError.TheVariants.{Memory}
use Rattle.sim_core.proofs.Replies.{not_answered}
use Rattle.sim_core.proofs.sim.Sim.put_validity.Goals as goal

pub returns-in_err-explained : goal.returns-in_err-explained
returns-in_err-explained c = not_answered _ _ _ _ Memory c.from_residual.result c.from_residual.ensures.1 tt refl

pub returns-in_err-put_validity : goal.returns-in_err-put_validity
returns-in_err-put_validity c = not_answered _ _ _ _ Memory c.from_residual-in_err-put_validity.result c.from_residual-in_err-put_validity.ensures.1 tt c.in_err-put_validity.ensures.err
