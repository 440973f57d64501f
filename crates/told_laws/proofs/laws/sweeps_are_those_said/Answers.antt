use Rattle.told_laws.proofs.SweepFiles.{those_said}
use Rattle.told_laws.proofs.laws.sweeps_are_those_said.Goals as goal

pub returns : goal.returns
returns c = those_said
