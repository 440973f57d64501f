use Rattle.told_laws.proofs.Activated.{read_named}
use Rattle.told_laws.proofs.laws.acts_are_named.Goals as goal

pub returns : goal.returns
returns c = read_named c.acts_are_those_said.ensures
