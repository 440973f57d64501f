use Rattle.std.proofs.Common.{◌≡◌, drop}
use Rattle.as_graph.specs.Topology.{relation}
use Rattle.message_sim.specs.Turns.{first_foreign_in}
use Rattle.message_sim.proofs.steps.Deliveries.first_foreign.Given as goal

abbrev pub invariant-loop-step : goal.invariant-loop-step
invariant-loop-step l = first_foreign_in (relation l.graph) (drop l.step-index l.step-items) ≡ first_foreign_in (relation l.graph) l.step-items
