use Rattle.std.proofs.Common.{◌+◌, ◌≤◌, ◌-◌, vec_len}
use Rattle.std.specs.Io.KnownBytes.{Consumes}
use Rattle.io_edge.specs.Faults.{KeepsNames}
use Rattle.io_edge.proofs.whole.read_all.Given as goal

abbrev pub invariant-pieces : goal.invariant-pieces
invariant-pieces g l = record {
  within : vec_len l.bytes ≤ l.limit + 1;
  taken : Consumes (g.I.Inputs.holds l.fn.inputs l.name) (g.I.Inputs.left l.inputs) l.bytes.items;
  sound : g.I.Inputs.is_sound l.fn.inputs l.name → g.I.Inputs.is_sound_begun l.inputs;
  keeps : KeepsNames g.I.Inputs.holds g.I.Inputs.is_sound g.I.Inputs.faults l.fn.inputs l.inputs;
}

abbrev pub decreases-pieces : goal.decreases-pieces
decreases-pieces g l = l.limit + 1 - vec_len l.bytes
