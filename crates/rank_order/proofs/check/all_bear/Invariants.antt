use Rattle.rank_order.specs.Ranks.{rank_at}
use Rattle.rank_order.specs.Plans.{is_numbered}
use Rattle.rank_order.specs.Mending.{AllBear}
use Rattle.rank_order.proofs.check.all_bear.Given as goal

abbrev pub invariant-loop-at : goal.invariant-loop-at
invariant-loop-at l = AllBear (is_numbered l.plan) (rank_at l.ranks) l.before l.later l.neighbours l.at
