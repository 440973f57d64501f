use Rattle.std.proofs.Common.{length}
use Rattle.scenario_text.proofs.Shaping.{Left}
use Rattle.scenario_text.proofs.shapes.list.Given as goal

abbrev pub invariant-loop-element : goal.invariant-loop-element
invariant-loop-element g l = Left g.S.Shape.reads l.place l.value.element l.items l.out.items

abbrev pub decreases-loop-element : goal.decreases-loop-element
decreases-loop-element g l = length l.items
