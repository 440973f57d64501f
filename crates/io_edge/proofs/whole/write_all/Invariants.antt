use Rattle.std.proofs.Common.{length, take, ◌-◌, ◌≤◌}
use Rattle.io_edge.specs.Bytes.{Appends}
use Rattle.io_edge.proofs.whole.write_all.Given as goal

abbrev pub invariant-pieces : goal.invariant-pieces
invariant-pieces g l = record {
  within : l.done ≤ length l.piece;
  later : g.S.Sink.faults l.fn.sink ≤ g.S.Sink.faults l.sink;
  so_far : Appends (g.S.Sink.written l.fn.sink) (g.S.Sink.written l.sink) (take l.done l.piece);
}

abbrev pub decreases-pieces : goal.decreases-pieces
decreases-pieces g l = length l.piece - l.done
