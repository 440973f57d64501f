use Rattle.std.proofs.Common.{◌≡◌, ℕ, ◌<◌, slice_index}
use Rattle.as_graph.specs.Topology.{relation}
use Rattle.three_pass.specs.Lists.{AreProviders, count_of, list_at}
use Rattle.three_pass.proofs.course.providers_of.Given as goal

abbrev pub invariant-loop-place : goal.invariant-loop-place
invariant-loop-place l = record {
  count : count_of l.lists ≡ l.place;
  each : (k : ℕ) → k < l.place → AreProviders (relation l.graph) (slice_index l.ases k) (list_at l.lists k);
}
