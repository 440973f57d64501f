use Rattle.std.proofs.Common.{◌≡◌, ◌+◌, ◌≤◌, length}
use Rattle.net_names.specs.Lines.{kept_from}
use Rattle.scenario_text.specs.Script.{script_of}
use Rattle.scenario_text.proofs.Commands.{script_on}
use Rattle.scenario_text.proofs.script.read_script.Given as goal

abbrev pub invariant-loop-kept : goal.invariant-loop-kept
invariant-loop-kept l = record {
  so_far : script_on l.lines (kept_from l.number l.rest) ≡ script_of l.fn.bytes;
  count : length l.lines ≡ l.count;
  number : l.number + length l.rest ≤ 16777217;
  few : l.count ≤ l.number;
}

abbrev pub decreases-loop-kept : goal.decreases-loop-kept
decreases-loop-kept l = length l.rest
