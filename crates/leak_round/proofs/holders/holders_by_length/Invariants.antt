use Rattle.std.proofs.Common.{◌≡◌, ℕ, Some, take, filter}
use Rattle.std.specs.Prelude.{is_some, slice_get}
use Rattle.route_choice.specs.Routings.{table_routing}
use Rattle.leak_round.specs.declared.holders.Holder.{Holder}
use Rattle.leak_round.specs.Moved.{asns_of}
use Rattle.leak_round.proofs.HolderLists.{IsLong}
use Rattle.leak_round.proofs.holders.holders_by_length.Given as goal

abbrev pub invariant-loop-place : goal.invariant-loop-place
invariant-loop-place l = record {
  asns : asns_of l.holders.items ≡ filter (λ b. is_some (table_routing l.pool l.table b)) (take l.place l.ases);
  entries : (i : ℕ) (x : Holder) → slice_get l.holders.items i ≡ Some x → IsLong (table_routing l.pool l.table) x;
}
