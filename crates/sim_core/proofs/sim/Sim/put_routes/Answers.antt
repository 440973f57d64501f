use Rattle.scenario_text.specs.declared.acts.Query.TheVariants as query
use Rattle.sim_core.specs.declared.errors.QueryError.TheVariants.{Memory}
use Rattle.sim_core.proofs.Replies.{not_answered, not_answered_for}
use Rattle.sim_core.proofs.sim.Sim.put_routes.Goals as goal

pub returns-in_err-table : goal.returns-in_err-table
returns-in_err-table c = not_answered_for c.args.self.now (query.Routes c.args.round c.args.prefix) _ c.in_err-table.field-0.0 c.from_residual.result c.from_residual.ensures.1 c.in_err-table.ensures.refused

pub returns-in_err-put_routes : goal.returns-in_err-put_routes
returns-in_err-put_routes c = not_answered _ _ _ _ Memory c.from_residual-in_err-put_routes.result c.from_residual-in_err-put_routes.ensures.1 tt c.in_err-put_routes.ensures.err
