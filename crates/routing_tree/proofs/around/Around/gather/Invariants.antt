use Rattle.std.proofs.Common.{◌≡◌, ℕ, ◌<◌, Some, length, slice_index, slice_index_or}
use Rattle.std.specs.Prelude.{All}
use Rattle.net_names.specs.declared.routes.Rel.{Rel}
use Rattle.as_graph.specs.Topology.{relation}
use Rattle.as_graph.specs.declared.neighbour.Neighbour.{Neighbour}
use Rattle.routing_tree.specs.Links.{places_of}
use Rattle.routing_tree.proofs.PlacesAround.{HasPlaceIn}
use Rattle.routing_tree.proofs.around.Around.gather.Given as goal

abbrev pub invariant-loop-index : goal.invariant-loop-index
invariant-loop-index l = record {
  each : (r : Rel) → All (λ j. (j < length l.places.ases) × (relation l.graph l.fn.asn (slice_index l.places.ases j) ≡ Some r)) (places_of l.self r);
  so_far : (k : ℕ) → k < l.index → (d : Neighbour) → HasPlaceIn l.places.ases l.self (slice_index_or l.neighbours k d);
}
