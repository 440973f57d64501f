use Rattle.told_laws.proofs.Printable.{held_printable}
use Rattle.told_laws.proofs.laws.held_entries_are_printable.Goals as goal

pub returns : goal.returns
returns c = held_printable
