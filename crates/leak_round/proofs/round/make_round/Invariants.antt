use Rattle.std.proofs.Common.{◌+◌, ◌-◌, ◌*◌, ◌≤◌, length}
use Rattle.as_graph.specs.Topology.{as_count}
use Rattle.stability_laws.specs.Plans.{prefixes_of}
use Rattle.stability_laws.specs.Rounds.{seeds_of}
use Rattle.stability_laws.specs.Stable.{IsStable}
use Rattle.stability_laws.specs.World.{setting_in}
use Rattle.leak_round.specs.Tables.{kept_in}
use Rattle.leak_round.proofs.Rounding.{IsRoundSoFar}
use Rattle.three_pass.specs.Scratches.{IsScratch}
use Rattle.leak_round.proofs.round.make_round.Given as goal

abbrev pub invariant-prefixes : goal.invariant-prefixes
invariant-prefixes g l = record {
  so_far : IsRoundSoFar (λ p f. IsStable (setting_in g.P.RoutePolicy.meaning g.V.OriginStates.state_of l.building.world.now p) (seeds_of l.building.plan.now l.round p (kept_in l.fn.pool l.earlier (length l.earlier) p)) f) l.building.plan.now l.fn.pool l.pool l.tables l.place;
  within : l.place ≤ length (prefixes_of l.building.plan.now);
  scratch : IsScratch l.building.way.now.course.now l.scratch;
  cost : l.steps ≤ l.fn.steps + 2 * as_count l.building.world.now.graph.now * l.place;
}

abbrev pub decreases-prefixes : goal.decreases-prefixes
decreases-prefixes g l = length (prefixes_of l.building.plan.now) - l.place
