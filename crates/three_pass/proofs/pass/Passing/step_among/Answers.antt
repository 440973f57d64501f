use Rattle.route_choice.proofs.Lists.{joined_live}
use Rattle.three_pass.proofs.pass.Passing.step_among.Goals as goal

pub may_loop_among-may_loop-requires-clause-live : goal.may_loop_among-may_loop-requires-clause-live
may_loop_among-may_loop-requires-clause-live g c = joined_live c.args.pool.now c.args.self.now.at.table.now c.args.overlay.now c.requires.can.changes.held
