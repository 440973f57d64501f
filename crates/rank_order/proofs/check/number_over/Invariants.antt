use Rattle.std.proofs.Common.{◌<◌, ◌^◌}
use Rattle.rank_order.specs.Plans.{rank_after}
use Rattle.rank_order.specs.Mending.{IsNumberOver}
use Rattle.rank_order.proofs.check.number_over.Given as goal

abbrev pub invariant-loop-at : goal.invariant-loop-at
invariant-loop-at l = IsNumberOver (rank_after l.ranks l.plan) l.neighbours l.at l.number × (l.number < 2 ^ 33)
