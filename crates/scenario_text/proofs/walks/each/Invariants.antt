use Rattle.std.proofs.Common.{◌≡◌}
use Rattle.scenario_text.specs.Places.{item}
use Rattle.scenario_text.specs.Walks.{each_at}
use Rattle.scenario_text.proofs.Walking.{going}
use Rattle.scenario_text.proofs.walks.each.Given as goal

abbrev pub invariant-loop-i : goal.invariant-loop-i
invariant-loop-i g l = going (λ i. g.R.Reading.gives (item l.fn.place i)) l.items l.out.items l.i ≡ each_at g.R.Reading.gives l.fn.place l.items
