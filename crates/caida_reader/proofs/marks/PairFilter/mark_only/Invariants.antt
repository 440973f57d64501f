use Rattle.std.proofs.Common.{All, take}
use Rattle.caida_reader.specs.declared.entry.Entry.{Entry}
use Rattle.caida_reader.specs.Marks.{IsMarked}
use Rattle.caida_reader.proofs.marks.PairFilter.mark_only.Given as goal

abbrev pub invariant-entries : goal.invariant-entries
invariant-entries l = All (λ (e : Entry). IsMarked l.self (e.a, e.b)) (take l.entry-index l.entries)
