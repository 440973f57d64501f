use Rattle.std.proofs.Common.{None}
use Rattle.scenario_text.specs.declared.acts.Query.TheVariants as query
use Rattle.sim_core.specs.declared.errors.QueryError.TheVariants.{Memory, UnknownPrefix, UnknownRound}
use Rattle.sim_core.proofs.Replies.{no_reason, not_answered, not_answered_for, wanting}
use Rattle.sim_core.proofs.sim.Sim.put_route.Goals as goal

pub returns-in_err-table : goal.returns-in_err-table
returns-in_err-table c =
    let e = c.in_err-table.field-0.0 in
    not_answered_for c.args.self.now (query.Route c.args.round c.args.prefix c.args.asn) _ e c.from_residual.result c.from_residual.ensures.1
    (wanting _ (UnknownRound c.args.round) e _ _ (wanting _ (UnknownPrefix c.args.prefix) e None _ (no_reason e)) c.in_err-table.ensures.refused)

pub returns-in_err-put_route : goal.returns-in_err-put_route
returns-in_err-put_route c = not_answered _ _ _ _ Memory c.from_residual-in_err-put_route.result c.from_residual-in_err-put_route.ensures.1 tt c.in_err-put_route.ensures.err
