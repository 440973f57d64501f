use Rattle.std.proofs.Common.{◌∙◌, ap}
use Rattle.caida_reader.proofs.EntryLemmas.{map_of, map_of-nothing}
use Rattle.caida_reader.proofs.run.Run.new.Goals as goal

pub returns : goal.returns
returns c = ap map_of c.new.ensures.items ∙ map_of-nothing
