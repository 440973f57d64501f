use Rattle.route_choice.proofs.Lists.{joined_live}
use Rattle.worked_cases.proofs.tests.steps.chosen.Goals as goal

pub evaluate-requires : goal.evaluate-requires
evaluate-requires g c = joined_live c.args.desk.now.pool c.args.desk.now.table c.args.desk.now.overlay c.requires.changes.held
