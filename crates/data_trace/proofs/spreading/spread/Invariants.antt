use Rattle.std.proofs.Common.{◌≡◌, ◌+◌, ◌-◌, ◌*◌, ◌≤◌, length, take, vec_capacity}
use Rattle.std.specs.List.{count_by}
use Rattle.data_trace.specs.Marks.{is_known}
use Rattle.data_trace.specs.Lists.{link_at}
use Rattle.data_trace.specs.Spreads.{IsFront, HasSpread}
use Rattle.data_trace.specs.Sums.{room_of}
use Rattle.data_trace.specs.Counted.{AreCounted}
use Rattle.data_trace.proofs.spreading.spread.Given as goal

abbrev pub invariant-spread : goal.invariant-spread
invariant-spread l = record {
  front : IsFront l.fn.marks l.marks l.queue.items;
  spread : HasSpread (link_at l.first) (link_at l.after) l.marks l.queue.items (length l.fn.queue.items) l.done;
  roots : take (length l.fn.queue.items) l.queue.items ≡ l.fn.queue.items;
  some : length l.fn.queue.items ≤ length l.queue.items;
  counted : l.roots ≡ length l.fn.queue.items;
  done : l.done ≤ length l.queue.items;
  room : vec_capacity l.fn.queue ≤ vec_capacity l.queue;
  sums_counted : AreCounted l.sums l.ases l.marks l.groups;
  sums_room : room_of l.fn.sums ≤ room_of l.sums;
}

abbrev pub decreases-spread : goal.decreases-spread
decreases-spread l = (length l.queue.items - l.done) + 2 * count_by is_known l.marks
