-- Places leave their lists where their next hops change.
use Rattle.std.specs.Prelude.{◌≡◌, ℕ, ◌<◌, ◌≤◌, true, List, length, vec_capacity}
use Rattle.net_names.specs.Numbers.{occurs}
use Rattle.as_graph.specs.Topology.{has}
use Rattle.data_trace.specs.declared.places.Mark.{Mark}
use Rattle.data_trace.specs.declared.places.Mark.TheVariants.{Unknown}
use Rattle.data_trace.specs.declared.columns.Columns.{Columns}
use Rattle.data_trace.specs.declared.keeping.Lists.{Lists}
use Rattle.data_trace.specs.declared.source.Source.{Source}
use Rattle.data_trace.specs.Marks.{mark_of, IsWithin}
use Rattle.data_trace.specs.Lists.{HasLists}
use Rattle.data_trace.specs.Keeping.{HasRoom}
use Rattle.data_trace.specs.Spreads.{IsFront}
use Rattle.data_trace.specs.Sums.{room_of}
use Rattle.data_trace.specs.Counted.{AreCounted, CanCount}
use Rattle.data_trace.specs.Sources.{HasHop, HopsChange}

-- each place that is not in the queue stands in its list, each place without a known end is in the queue and has the next hop of its AS, and there is room for all places
pub record CanDetach (s : Source) (ases : List ℕ) (columns : Columns) (l : Lists) : Type 0 where
  pub places : length columns.hops.items ≡ length ases
  pub listed : (x : ℕ) → has s.graph.now x ≡ true → occurs x ases ≡ true
  pub within : IsWithin columns.hops.items
  pub len : length columns.marks.items ≡ length columns.hops.items
  pub front : (old : List Mark) × IsFront old columns.marks.items l.queue.items
  pub lists : HasLists columns.hops.items l.queue.items l.first.items l.before.items l.after.items
  pub unknown : (x : ℕ) → x < length columns.hops.items → mark_of columns.marks.items x ≡ Unknown → HasHop s ases columns.hops.items x
  pub room : length columns.hops.items ≤ vec_capacity l.queue
  pub sums : CanCount columns.sums ases columns.marks.items columns.groups.items

-- places came to the queue, left their lists and have the next hops of their ASes, their ends are no longer known, and all else stays
pub record IsDetached (s : Source) (ases : List ℕ) (old new : Columns) (l l' : Lists) : Type 0 where
  pub front : (marks : List Mark) → IsFront marks old.marks.items l.queue.items → IsFront marks new.marks.items l'.queue.items
  pub lists : HasLists new.hops.items l'.queue.items l'.first.items l'.before.items l'.after.items
  pub within : IsWithin new.hops.items
  pub unknown : (x : ℕ) → x < length new.hops.items → mark_of new.marks.items x ≡ Unknown → HasHop s ases new.hops.items x
  pub change : HopsChange s ases old.hops.items new.hops.items l.queue.items l'.queue.items
  pub counted : AreCounted new.sums ases new.marks.items new.groups.items
  pub places : length new.hops.items ≡ length ases
  pub groups : new.groups ≡ old.groups
  pub room : vec_capacity l.queue ≤ vec_capacity l'.queue
  pub lists_room : (n : ℕ) → HasRoom n l → HasRoom n l'
  pub hops_room : vec_capacity new.hops ≡ vec_capacity old.hops
  pub marks_room : vec_capacity new.marks ≡ vec_capacity old.marks
  pub sums_room : room_of old.sums ≤ room_of new.sums
