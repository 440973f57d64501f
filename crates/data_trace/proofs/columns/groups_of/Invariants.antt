use Rattle.std.proofs.Common.{◌≡◌, ℕ, ◌<◌, length}
use Rattle.stability_laws.specs.Book.{policy_at}
use Rattle.data_trace.specs.Columns.{name_at, group_at, IsGroup}
use Rattle.data_trace.proofs.columns.groups_of.Given as goal

abbrev pub invariant-loop-place : goal.invariant-loop-place
invariant-loop-place g l = record {
  len : length l.groups.items ≡ l.place;
  each : (x : ℕ) → x < l.place → IsGroup l.graph (λ a. g.P.Labelled.label_of (policy_at l.book a)) (name_at l.ases x) (group_at l.groups.items x);
}
