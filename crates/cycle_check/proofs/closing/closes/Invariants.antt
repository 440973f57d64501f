use Rattle.std.proofs.Common.{ℕ, ◌+◌, ◌-◌, true, false}
use Rattle.as_graph.specs.Topology.{as_count}
use Rattle.cycle_check.specs.Searches.{IsRunning}
use Rattle.cycle_check.proofs.closing.closes.Given as goal

abbrev pub invariant-loop-pair : goal.invariant-loop-pair
invariant-loop-pair l = record {
  up : IsRunning l.graph l.fn.provider l.fn.customer true l.up;
  down : IsRunning l.graph l.fn.provider l.fn.customer false l.down;
}

abbrev pub decreases-loop-pair : goal.decreases-loop-pair
decreases-loop-pair l = as_count l.graph + 1 + (as_count l.graph + 1) - (l.up.done + l.down.done)
