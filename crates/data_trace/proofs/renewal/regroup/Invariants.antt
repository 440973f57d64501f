use Rattle.std.proofs.Common.{◌≡◌, ℕ, ◌<◌, ◌≤◌, length, take, true, false}
use Rattle.net_names.specs.Numbers.{occurs}
use Rattle.stability_laws.specs.Book.{policy_at}
use Rattle.data_trace.specs.Sums.{room_of}
use Rattle.data_trace.specs.Counted.{AreCounted}
use Rattle.data_trace.specs.Columns.{name_at, group_at, IsGroup}
use Rattle.data_trace.proofs.renewal.regroup.Given as goal

abbrev pub invariant-regrouped : goal.invariant-regrouped
invariant-regrouped g l = record {
  done : (x : ℕ) → x < length l.ases.ases → occurs (name_at l.ases.ases x) (take l.asn-index l.regrouped) ≡ true → IsGroup l.graph (λ a. g.P.Labelled.label_of (policy_at l.book a)) (name_at l.ases.ases x) (group_at l.groups x);
  others : (x : ℕ) → x < length l.ases.ases → occurs (name_at l.ases.ases x) (take l.asn-index l.regrouped) ≡ false → group_at l.groups x ≡ group_at l.fn.columns.groups.items x;
  counted : AreCounted l.sums l.ases.ases l.marks l.groups;
  sums_room : room_of l.fn.columns.sums ≤ room_of l.sums;
}
