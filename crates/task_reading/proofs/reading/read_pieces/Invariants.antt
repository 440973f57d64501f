use Rattle.std.proofs.Common.{◌≡◌, ◌+◌, ◌≤◌, ◌-◌, ◌<◌, length}
use Rattle.io_edge.specs.Faults.{KeepsNames}
use Rattle.task_reading.proofs.Feeding.{Fed}
use Rattle.task_reading.proofs.reading.read_pieces.Given as goal

abbrev pub invariant-pieces : goal.invariant-pieces
invariant-pieces g l = record {
  room : length l.room ≡ l.most;
  some : 0 < l.most;
  within : l.taken ≤ 268435457;
  fed : Fed (g.I.Inputs.holds l.fn.inputs l.name) (g.I.Inputs.left l.inputs) l.reader l.taken;
  line : l.reader.line ≤ l.taken + 1;
  sound : g.I.Inputs.is_sound l.fn.inputs l.name → g.I.Inputs.is_sound_begun l.inputs;
  keeps : KeepsNames g.I.Inputs.holds g.I.Inputs.is_sound g.I.Inputs.faults l.fn.inputs l.inputs;
}

abbrev pub decreases-pieces : goal.decreases-pieces
decreases-pieces g l = 268435457 - l.taken
