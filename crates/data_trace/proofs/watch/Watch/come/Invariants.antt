use Rattle.std.proofs.Common.{◌≡◌, ℕ, ◌+◌, length, take}
use Rattle.data_trace.specs.Marks.{hop_at}
use Rattle.data_trace.specs.Columns.{group_at}
use Rattle.data_trace.specs.Comes.{Comes}
use Rattle.data_trace.proofs.watch.Watch.come.Given as goal

abbrev pub invariant-coming : goal.invariant-coming
invariant-coming l = record {
  comes : Comes l.graph (take l.asn-index l.coming) l.fn.self.ases.ases l.self.ases.ases;
  spare : length l.self.ases.ases + l.self.spare ≡ length l.fn.self.ases.ases + l.fn.self.spare;
  lists : l.self.has_lists ≡ l.fn.self.has_lists;
  addr : l.self.addr ≡ l.fn.self.addr;
  hops : (x : ℕ) → hop_at l.self.columns.hops.items x ≡ hop_at l.fn.self.columns.hops.items x;
  groups : (x : ℕ) → group_at l.self.columns.groups.items x ≡ group_at l.fn.self.columns.groups.items x;
}
