use Rattle.std.specs.Prelude.{IfOk}
use Rattle.leak_round.specs.Leaked.{AreSeedsWith}
use Rattle.leak_round.proofs.table_seeds.seeds_after_edit.Goals as goal

pub returns : goal.returns
returns g c = coe 0 1 (i. IfOk c.seeds_with.result (AreSeedsWith (c.plan_after-plan.ensures i) (c.announcements_after-announced.ensures i) c.args.tables.now c.args.changes.now c.args.at.now.round c.args.at.now.prefix)) c.seeds_with.ensures
