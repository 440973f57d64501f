use Rattle.std.proofs.Common.{◌-◌, length}
use Rattle.std.specs.List.{range_with_len}
use Rattle.data_trace.specs.Lists.{HasLists}
use Rattle.data_trace.proofs.lists.link_all.Given as goal

abbrev pub invariant-places : goal.invariant-places
invariant-places l = HasLists l.hops (range_with_len l.place (length l.hops - l.place)) l.first l.before l.after
