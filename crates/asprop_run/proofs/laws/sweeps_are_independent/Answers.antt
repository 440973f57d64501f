use Rattle.asprop_run.proofs.Sweeps.{independent}
use Rattle.asprop_run.proofs.laws.sweeps_are_independent.Goals as goal

pub returns : goal.returns
returns c = independent
