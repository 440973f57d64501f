use Rattle.told_laws.proofs.SweepFiles.{faults_first}
use Rattle.told_laws.proofs.laws.sweep_faults_are_first.Goals as goal

pub returns : goal.returns
returns c = faults_first
