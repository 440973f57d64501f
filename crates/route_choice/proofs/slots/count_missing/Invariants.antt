use Rattle.std.proofs.Common.{◌≡◌, ◌+◌, ◌≤◌}
use Rattle.route_choice.specs.Slots.{keys, missing_count}
use Rattle.route_choice.proofs.Uses.{missing_from}
use Rattle.route_choice.proofs.slots.count_missing.Given as goal

abbrev pub invariant-loop-place : goal.invariant-loop-place
invariant-loop-place l = record {
  counted : l.missing + missing_from l.slots l.changes l.place ≡ missing_count l.slots (keys l.changes);
  few : l.missing ≤ l.place;
}
