use Rattle.std.proofs.Common.{◌-◌, length}
use Rattle.cycle_check.specs.Rows.{relation}
use Rattle.cycle_check.specs.Ways.{IsWay}
use Rattle.cycle_check.proofs.way.way_down.Given as goal

abbrev pub invariant-loop-seen : goal.invariant-loop-seen
invariant-loop-seen l = IsWay (relation l.starts l.items) l.counts l.seen.items l.places.items l.at

abbrev pub decreases-loop-seen : goal.decreases-loop-seen
decreases-loop-seen l = length l.counts - length l.places.items
