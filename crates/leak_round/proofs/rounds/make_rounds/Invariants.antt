use Rattle.std.proofs.Common.{suc, ◌+◌, ◌*◌, ◌≤◌, length}
use Rattle.as_graph.specs.Topology.{as_count}
use Rattle.stability_laws.specs.Plans.{prefixes_of}
use Rattle.stability_laws.specs.Rounds.{seeds_of}
use Rattle.stability_laws.specs.Stable.{IsStable}
use Rattle.stability_laws.specs.World.{setting_in}
use Rattle.leak_round.proofs.AllRounds.{AreRoundsSoFar}
use Rattle.three_pass.specs.Scratches.{IsScratch}
use Rattle.leak_round.proofs.rounds.make_rounds.Given as goal

abbrev pub invariant-loop-past : goal.invariant-loop-past
invariant-loop-past g l = record {
  so_far : AreRoundsSoFar (λ before p f h. IsStable (setting_in g.P.RoutePolicy.meaning g.V.OriginStates.state_of l.building.world.now p) (seeds_of l.building.plan.now (suc before) p f) h) l.building.plan.now l.fn.pool l.pool l._past l.tables.items;
  scratch : IsScratch l.building.way.now.course.now l.scratch;
  cost : l.steps ≤ l.fn.steps + 2 * as_count l.building.world.now.graph.now * length (prefixes_of l.building.plan.now) * l._past;
}
