use Rattle.told_laws.proofs.Joined.{joined}
use Rattle.told_laws.proofs.laws.sweep_files_are_independent.Goals as goal

pub returns : goal.returns
returns c = joined c.sweeps_are_independent.ensures
