use Rattle.std.proofs.Common.{◌≡◌, ℕ, true, false, Some, take}
use Rattle.as_graph.specs.Neighbours.{asns}
use Rattle.as_graph.specs.Topology.{relation}
use Rattle.net_names.specs.declared.routes.Rel.{Rel}
use Rattle.net_names.specs.Numbers.{occurs}
use Rattle.sim_core.proofs.policies.push_neighbours.Given as goal

abbrev pub invariant-loop-neighbour : goal.invariant-loop-neighbour
invariant-loop-neighbour l = record {
  these : (n : ℕ) → occurs n (asns (take l.neighbour-index l.neighbour-items)) ≡ true → occurs n l.ases.items ≡ true;
  only : (a : ℕ) → occurs a l.ases.items ≡ true → occurs a l.fn.ases.items ≡ false → (r : Rel) × (relation l.graph l.fn.asn a ≡ Some r);
  more : (a : ℕ) → occurs a l.fn.ases.items ≡ true → occurs a l.ases.items ≡ true;
}
