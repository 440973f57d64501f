use Rattle.std.proofs.Common.{take}
use Rattle.data_trace.specs.Marks.{IsSettling}
use Rattle.data_trace.proofs.walks.find_end.Given as goal

abbrev pub invariant-path : goal.invariant-path
invariant-path l = IsSettling l.initial.marks l.marks (take l.at-index l.at-items) l.end
