use Rattle.std.proofs.Common.{◌-◌, ◌≤◌, [], length, take}
use Rattle.cycle_check.specs.Rows.{count_of, row}
use Rattle.cycle_check.specs.Stages.{IsStage}
use Rattle.cycle_check.proofs.notifying.give_ranks.Given as goal

abbrev pub invariant-loop-head : goal.invariant-loop-head
invariant-loop-head l = record {
  within : l.head ≤ length l.order.items;
  stage : IsStage (row l.starts l.items) (count_of l.starts) l.counts l.ranks l.order.items (take l.head l.order.items) [];
}

abbrev pub decreases-loop-head : goal.decreases-loop-head
decreases-loop-head l = count_of l.starts - l.head
