use Rattle.std.proofs.Common.{length}
use Rattle.scenario_text.proofs.Shaping.{Unseen}
use Rattle.scenario_text.proofs.shapes.has_known.Given as goal

abbrev pub invariant-loop-name : goal.invariant-loop-name
invariant-loop-name l = Unseen l.known l.value.element l.members

abbrev pub decreases-loop-name : goal.decreases-loop-name
decreases-loop-name l = length l.members
