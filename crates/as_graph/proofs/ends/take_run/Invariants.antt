use Rattle.std.proofs.Common.{◌≡◌, ◌≤◌, ◌<◌, ◌-◌, ◌++◌, ℕ, length, drop, get_or}
use Rattle.as_graph.specs.declared.ends.End.{End}
use Rattle.as_graph.specs.Ends.{ends_at}
use Rattle.as_graph.proofs.ends.take_run.Given as goal

abbrev pub invariant-loop-place : goal.invariant-loop-place
invariant-loop-place l = record {
  start : l.from ≤ l.place;
  within : l.place ≤ length l.ends;
  these : (k : ℕ) (d : End) → l.from ≤ k → k < l.place → (get_or l.ends k d).at ≡ l.asn;
  taken : l.row.neighbours.items ++ ends_at l.asn (drop l.place l.ends) ≡ l.fn.row.neighbours.items ++ ends_at l.asn (drop l.from l.ends);
  marked : l.row.marked ≡ l.fn.row.marked;
}

abbrev pub decreases-loop-place : goal.decreases-loop-place
decreases-loop-place l = length l.ends - l.place
