use Rattle.std.proofs.Common.{None}
use Rattle.std.proofs.lemmas.Result.{err_from_is_err_and}
use Rattle.sim_core.specs.declared.errors.QueryError.TheVariants.{UnknownRound}
use Rattle.sim_core.proofs.Replies.{no_reason, wanting}
use Rattle.sim_core.proofs.sim.Sim.watch_of.Goals as goal

pub returns-in_err-_tables-clause-refused : goal.returns-in_err-_tables-clause-refused
returns-in_err-_tables-clause-refused c =
    let p = err_from_is_err_and c.from_residual.result c.from_residual.ensures.1 in
    rw (p.1, p.2) (wanting _ (UnknownRound c.args.round) c.in_err-_tables.field-0.0 None _ (no_reason c.in_err-_tables.field-0.0) c.in_err-_tables.ensures.refused)
