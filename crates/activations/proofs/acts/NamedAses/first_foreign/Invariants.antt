use Rattle.std.proofs.Common.{◌≡◌, drop}
use Rattle.as_graph.specs.Topology.{has}
use Rattle.activations.specs.Named.{first_foreign_in}
use Rattle.activations.proofs.acts.NamedAses.first_foreign.Given as goal

abbrev pub invariant-loop-line : goal.invariant-loop-line
invariant-loop-line l = first_foreign_in (has l.graph) (drop l.line-index l.line-items) ≡ first_foreign_in (has l.graph) l.line-items
