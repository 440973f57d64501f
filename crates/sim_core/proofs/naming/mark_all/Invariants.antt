use Rattle.std.proofs.Common.{◌≡◌, ◌≤◌, drop, None}
use Rattle.as_graph.specs.Topology.{as_count}
use Rattle.sim_core.specs.Marking.{marked}
use Rattle.sim_core.proofs.naming.mark_all.Given as goal

abbrev pub invariant-loop-asn : goal.invariant-loop-asn
invariant-loop-asn l = record {
  marks : marked l.fn.graph l.names ≡ marked l.graph (drop l.asn-index l.names);
  room : l.graph.room ≡ None;
  few : as_count l.fn.graph ≤ 150000 → as_count l.graph ≤ 150000;
}
