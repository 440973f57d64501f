use Rattle.std.proofs.Common.{◌-◌, ◌≤◌}
use Rattle.data_trace.proofs.hints.slots_for.Given as goal

abbrev pub invariant-loop-slots : goal.invariant-loop-slots
invariant-loop-slots l = record { some : 1 ≤ l.slots; most : l.slots ≤ 2097152 }

abbrev pub decreases-loop-slots : goal.decreases-loop-slots
decreases-loop-slots l = 2097152 - l.slots
