use Rattle.std.proofs.Common.{◌≡◌, ◌+◌, ◌≤◌, length}
use Rattle.net_names.specs.Lines.{kept_from}
use Rattle.net_names.proofs.lines.next_kept.Given as goal

abbrev pub invariant-loop-rest : goal.invariant-loop-rest
invariant-loop-rest l = record {
  so_far : kept_from l.at l.rest ≡ kept_from l.fn.number l.fn.bytes;
  later : l.fn.number ≤ l.at;
  room : l.at + length l.rest ≤ l.fn.number + length l.fn.bytes;
  short : length l.rest ≤ length l.fn.bytes;
}

abbrev pub decreases-loop-rest : goal.decreases-loop-rest
decreases-loop-rest l = length l.rest
