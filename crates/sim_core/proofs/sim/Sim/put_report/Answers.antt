use Rattle.scenario_text.specs.declared.acts.Query.TheVariants as query
use Rattle.sim_core.specs.Sims.{kept, world_seen}
use Rattle.sim_core.specs.declared.errors.QueryError.TheVariants.{Memory}
use Rattle.sim_core.proofs.Replies.{not_answered, not_answered_for}
use Rattle.sim_core.proofs.Rows.{report_answers}
use Rattle.sim_core.proofs.sim.Sim.put_report.Goals as goal

pub returns : goal.returns
returns c = record {
  answered = report_answers (world_seen c.args.self.now) (kept c.args.self.now) c.args.round c.args.addr c.in_ok-watch.watch.now c.args.self.now.counted.stubs c.in_ok-watch.ensures.found _ c.seed_plan.ensures _ _ c.in_ok-put_report.ensures.ok;
  refused = tt;
  err = tt;
}

pub returns-in_err-watch : goal.returns-in_err-watch
returns-in_err-watch c = not_answered_for c.args.self.now (query.Report c.args.round c.args.addr) _ c.in_err-watch.field-0.0 c.from_residual.result c.from_residual.ensures.1 c.in_err-watch.ensures.refused

pub returns-in_err-put_report : goal.returns-in_err-put_report
returns-in_err-put_report c = not_answered _ _ _ _ Memory c.from_residual-in_err-put_report.result c.from_residual-in_err-put_report.ensures.1 tt c.in_err-put_report.ensures.err
