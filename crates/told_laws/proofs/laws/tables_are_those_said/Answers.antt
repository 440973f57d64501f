use Rattle.told_laws.proofs.TableFiles.{those_said}
use Rattle.told_laws.proofs.laws.tables_are_those_said.Goals as goal

pub returns : goal.returns
returns c = those_said
