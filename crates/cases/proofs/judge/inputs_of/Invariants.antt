use Rattle.std.proofs.Common.{◌≡◌, ◌-◌, ◌^◌, [], take}
use Rattle.cases.specs.Runs.{files_from}
use Rattle.cases.proofs.judge.inputs_of.Given as goal

abbrev pub invariant-loop-file : goal.invariant-loop-file
invariant-loop-file l = l.inputs ≡ record {
  files = files_from [] (take l.file-index l.files);
  left = [];
  calls = record { fails = []; made = 0; faults = 0 };
  most = 2 ^ 64 - 1;
}
