use Rattle.std.proofs.Common.{◌+◌, ◌-◌, ◌++◌, length}
use Rattle.as_graph.specs.Topology.{has, ases}
use Rattle.route_choice.specs.PrefixWorlds.{setting_at}
use Rattle.route_choice.specs.Routings.{seeds_of}
use Rattle.dirty_recompute.specs.Named.{HasAll}
use Rattle.dirty_recompute.specs.PlannedRanks.{rank_of}
use Rattle.dirty_recompute.proofs.Ways.{IsUpward}
use Rattle.dirty_recompute.proofs.plan.go_up.Given as goal

abbrev pub invariant-loop-asn : goal.invariant-loop-asn
invariant-loop-asn g l = record {
  way : IsUpward (has l.world.at.graph.now) (setting_at g.P.RoutePolicy.meaning g.V.OriginStates.state_of l.world.at) (rank_of l.world.ranks) l.touched l.world.at.seeds.now l.world.at.table.now l.initial.pool l.pool l.initial.overlay l.overlay l.queues.up l.queues.whole l.initial.steps l.steps;
  named : HasAll l.named (seeds_of l.pool l.world.at.seeds.now);
}

abbrev pub decreases-loop-asn : goal.decreases-loop-asn
decreases-loop-asn g l = l.initial.steps + length (l.touched ++ ases l.world.at.graph.now) - l.steps
