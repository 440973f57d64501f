use Rattle.told_laws.proofs.TableFaults.{faults_first}
use Rattle.told_laws.proofs.laws.table_faults_are_first.Goals as goal

pub returns : goal.returns
returns c = faults_first
