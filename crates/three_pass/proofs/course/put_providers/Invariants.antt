use Rattle.std.proofs.Common.{◌≡◌, ℕ, ◌<◌, true, Some, slice_index_or}
use Rattle.std.specs.Prelude.{All}
use Rattle.net_names.specs.Numbers.{occurs}
use Rattle.net_names.specs.declared.routes.Rel.TheVariants.{Provider}
use Rattle.as_graph.specs.Topology.{relation}
use Rattle.as_graph.specs.declared.neighbour.Neighbour.{Neighbour}
use Rattle.as_graph.specs.Neighbours.{asns}
use Rattle.three_pass.proofs.course.put_providers.Given as goal

abbrev pub invariant-loop-index : goal.invariant-loop-index
invariant-loop-index l = record {
  each : All (λ x. relation l.graph l.fn.asn x.asn ≡ Some x.rel) l.list.neighbours.items;
  only : All (λ x. x.rel ≡ Provider) l.list.neighbours.items;
  so_far : (k : ℕ) → k < l.index → (d : Neighbour) → (slice_index_or l.neighbours k d).rel ≡ Provider → occurs (slice_index_or l.neighbours k d).asn (asns l.list.neighbours.items) ≡ true;
}
