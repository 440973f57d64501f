use Rattle.std.proofs.Common.{◌*◌, [], length}
use Rattle.stability_laws.specs.Plans.{prefixes_of}
use Rattle.leak_round.specs.Findings.{AreFoundBy}
use Rattle.leak_round.specs.Found.{AreFoundUpTo, AreSame, IsPaid}
use Rattle.leak_round.proofs.whole_edit.find_and_tell.Given as goal

abbrev pub invariant-loop-past : goal.invariant-loop-past
invariant-loop-past g l = record {
  found : AreFoundBy g.P.RoutePolicy.meaning g.V.OriginStates.state_of l.finding l.pool l.tables.items l.changes.items l.fn.steps l.steps;
  past_found : AreFoundUpTo l.finding.plan.now l.changes.items l.past;
  paid : IsPaid l.fn.pool l.pool [] l.changes.items (l.past * length (prefixes_of l.finding.plan.now));
  same : AreSame l.fn.tables.items l.tables.items;
}
