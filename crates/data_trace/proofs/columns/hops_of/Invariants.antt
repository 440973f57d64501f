use Rattle.std.proofs.Common.{◌≡◌, ℕ, ◌<◌, length}
use Rattle.data_trace.specs.declared.places.PlaceHop.TheVariants.{To}
use Rattle.data_trace.specs.NextHops.{hops_by}
use Rattle.data_trace.specs.Marks.{hop_at}
use Rattle.data_trace.specs.Columns.{named, name_at}
use Rattle.data_trace.proofs.columns.hops_of.Given as goal

abbrev pub invariant-loop-place : goal.invariant-loop-place
invariant-loop-place l = record {
  len : length l.hops.items ≡ l.place;
  within : (x y : ℕ) → hop_at l.hops.items x ≡ To y → y < length l.ases.ases;
  follows : (x : ℕ) → x < l.place → named l.ases.ases (hop_at l.hops.items x) ≡ hops_by l.forwarding (name_at l.ases.ases x);
}
