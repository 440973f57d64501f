use Rattle.told_laws.proofs.Loaded.{loaded_printable}
use Rattle.told_laws.proofs.laws.loaded_worlds_are_printable.Goals as goal

pub returns : goal.returns
returns c = loaded_printable c.scenarios_are_those_said.ensures
