use Rattle.std.proofs.Common.{subst}
use Rattle.task_reading.specs.Jobs.{AreAlike}
use Rattle.task_reading.proofs.Shapes.{alike}
use Rattle.task_reading.proofs.jobs.jobs_are_alike.Goals as goal

pub returns : goal.returns
returns c = subst AreAlike c.jobs.view_is (alike c.jobs.inside.asks)
