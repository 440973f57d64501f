use Rattle.as_graph.specs.Topology.{relation}
use Rattle.cycle_check.specs.Providers.{AreFilled}
use Rattle.cycle_check.proofs.provider_rows.filled.Given as goal

abbrev pub invariant-loop-place : goal.invariant-loop-place
invariant-loop-place l = AreFilled (relation l.graph) l.ases l.starts.items l.items.items l.place
