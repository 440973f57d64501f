use Rattle.std.proofs.Common.{◌+◌, ◌<◌, length, take, drop, get_or}
use Rattle.cycle_check.specs.Rows.{count_of, row}
use Rattle.cycle_check.specs.Stages.{IsStage, IsNotifying}
use Rattle.cycle_check.proofs.notifying.notify_all.Given as goal

abbrev pub invariant-loop-provider : goal.invariant-loop-provider
invariant-loop-provider l = record {
  more : l.fn.head < length l.order.items;
  stage : IsStage (row l.fn.starts l.fn.items) (count_of l.fn.starts) l.counts l.ranks l.order.items (take (l.fn.head + 1) l.order.items) (drop l.provider-index l.provider-items);
  notifying : IsNotifying (row l.fn.starts l.fn.items) l.ranks (take (l.fn.head + 1) l.order.items) (drop l.provider-index l.provider-items) (get_or l.fn.order.items l.fn.head 0) (get_or l.fn.ranks (get_or l.fn.order.items l.fn.head 0) 0);
}
