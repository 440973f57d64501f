use Rattle.std.proofs.Common.{◌≡◌, take}
use Rattle.route_choice.specs.Few.{few_entries}
use Rattle.route_choice.proofs.beside.begun.Given as goal

abbrev pub invariant-loop-index : goal.invariant-loop-index
invariant-loop-index l = l.dense.entries ≡ take l.index (few_entries l.few)
