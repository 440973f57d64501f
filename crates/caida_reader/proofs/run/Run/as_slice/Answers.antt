use Rattle.std.proofs.Common.{◌∙◌, sym, ap, map}
use Rattle.caida_reader.specs.Entries.{entry_of}
use Rattle.caida_reader.proofs.EntryLemmas.{entries-map_of}
use Rattle.caida_reader.proofs.run.Run.as_slice.Goals as goal

pub returns : goal.returns
returns c = rw (← c.self.view_is) (ap (map entry_of) c.as_slice.ensures.value ∙ sym (entries-map_of c.self.inside.entries.items c.self.invariant))
