use Rattle.std.proofs.Common.{ℕ, ◌-◌, ◌≤◌, length}
use Rattle.stability_laws.specs.Plans.{prefixes_of}
use Rattle.leak_round.specs.Findings.{AreFoundBy}
use Rattle.leak_round.specs.Found.{AreSame, IsPaid}
use Rattle.leak_round.proofs.Turns.{AreUpTo}
use Rattle.leak_round.proofs.round_changes.find_in_round.Given as goal

abbrev pub invariant-prefixes : goal.invariant-prefixes
invariant-prefixes g l = record {
  found : (first : ℕ) → AreFoundBy g.P.RoutePolicy.meaning g.V.OriginStates.state_of l.finding l.fn.pool l.fn.tables.items l.fn.changes.items first l.fn.steps
      → AreFoundBy g.P.RoutePolicy.meaning g.V.OriginStates.state_of l.finding l.pool l.tables.items l.changes.items first l.steps;
  up : AreUpTo l.finding.plan.now l.changes.items l.round l.place;
  paid : IsPaid l.fn.pool l.pool l.fn.changes.items l.changes.items l.place;
  same : AreSame l.fn.tables.items l.tables.items;
  within : l.place ≤ length (prefixes_of l.finding.plan.now);
}

abbrev pub decreases-prefixes : goal.decreases-prefixes
decreases-prefixes g l = length (prefixes_of l.finding.plan.now) - l.place
