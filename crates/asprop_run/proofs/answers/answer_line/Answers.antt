use Rattle.std.proofs.Common.{◌∙◌, ap, sym}
use Rattle.scenario_text.specs.LineValues.{LineValue}
use Rattle.sim_core.specs.Sims.{kept, world_seen}
use Rattle.scenario_text.specs.declared.acts.Act.TheVariants as act
use Rattle.asprop_run.proofs.Answering.{answered}
use Rattle.asprop_run.proofs.answers.answer_line.Goals as goal

pub returns-in-Query-clause-answered : goal.returns-in-Query-clause-answered
returns-in-Query-clause-answered c =
    let asks = sym (ap (λ (l : LineValue). l.act) c.line.view_is) ∙ c.in-Query.is in
    answered c.put_reply.result c.args.heads (world_seen c.args.sim.now) (world_seen c.args.sim.now) (kept c.args.sim.now) c.args.line.now (act.Query c.in-Query.query) _ _ c.in_ok-begin_text.ensures asks c.requires.kept c.put_reply.ensures

pub returns-in-Edit-clause-answered : goal.returns-in-Edit-clause-answered
returns-in-Edit-clause-answered c =
    let asks = sym (ap (λ (l : LineValue). l.act) c.line.view_is) ∙ c.in-Edit.is in
    answered c.put_edit.result c.args.heads (world_seen c.args.sim.now) (world_seen c.put_edit.new.sim) (kept c.args.sim.now) c.args.line.now (act.Edit c.in-Edit.edit) _ _ c.in_ok-begin_text.ensures asks c.requires.kept c.put_edit.ensures.reply
