use Rattle.std.proofs.Common.{◌≢◌, ℕ, ◌<◌, slice_index_or}
use Rattle.net_names.specs.declared.routes.Rel.TheVariants.{Customer}
use Rattle.as_graph.specs.Topology.{relation}
use Rattle.as_graph.specs.declared.neighbour.Neighbour.{Neighbour}
use Rattle.three_pass.specs.Told.{AreTrue, IsTold}
use Rattle.three_pass.proofs.told.Told.tell_around.Given as goal

abbrev pub invariant-loop-index : goal.invariant-loop-index
invariant-loop-index l = record {
  above : (k : ℕ) → k < l.index → (d : Neighbour) → (slice_index_or l.neighbours k d).rel ≢ Customer → IsTold l.self (slice_index_or l.neighbours k d).asn l.fn.asn;
  others : (a b : ℕ) → IsTold l.initial.self a b → IsTold l.self a b;
  sound : AreTrue (relation l.graph) l.initial.self → AreTrue (relation l.graph) l.self;
}
