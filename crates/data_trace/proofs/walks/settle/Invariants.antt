use Rattle.std.proofs.Common.{◌≤◌, take}
use Rattle.data_trace.specs.Marks.{IsSettling}
use Rattle.data_trace.specs.Sums.{room_of}
use Rattle.data_trace.specs.Counted.{AreCounted}
use Rattle.data_trace.proofs.walks.settle.Given as goal

abbrev pub invariant-path : goal.invariant-path
invariant-path l = record {
  settling : IsSettling l.initial.marks l.marks (take l.at-index l.at-items) l.end;
  counted : AreCounted l.sums l.ases l.marks l.groups;
  sums_room : room_of l.fn.sums ≤ room_of l.sums;
}
