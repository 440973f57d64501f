use Rattle.std.proofs.Common.{None, refl}
use Rattle.scenario_text.specs.declared.acts.Query.TheVariants as query
use Rattle.sim_core.specs.declared.errors.QueryError.TheVariants.{Memory, UnknownRound}
use Rattle.sim_core.proofs.Replies.{no_reason, not_answered, not_answered_for, wanting}
use Rattle.sim_core.proofs.sim.Sim.put_trace.Goals as goal

pub returns-in_err-tables : goal.returns-in_err-tables
returns-in_err-tables c =
    let e = c.in_err-tables.field-0.0 in
    not_answered_for c.args.self.now (query.Trace c.args.round c.args.asn c.args.addr) _ e c.from_residual.result c.from_residual.ensures.1
    (wanting _ (UnknownRound c.args.round) e None _ (no_reason e) c.in_err-tables.ensures.refused)

pub returns-in_err-trace : goal.returns-in_err-trace
returns-in_err-trace c = not_answered _ _ _ _ Memory c.from_residual-in_err-trace.result c.from_residual-in_err-trace.ensures.1 tt refl

pub returns-in_err-put_trace : goal.returns-in_err-put_trace
returns-in_err-put_trace c = not_answered _ _ _ _ Memory c.from_residual-in_err-put_trace.result c.from_residual-in_err-put_trace.ensures.1 tt c.in_err-put_trace.ensures.err
