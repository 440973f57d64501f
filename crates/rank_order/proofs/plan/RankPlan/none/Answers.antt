use Rattle.std.proofs.Common.{rules}
use Rattle.rank_order.proofs.Planned.{none_last, none_same}
use Rattle.rank_order.proofs.plan.RankPlan.none.Goals as goal

pub returns-clause-last : goal.returns-clause-last
returns-clause-last c = λ r. none_last r _ c.new.ensures.items

pub returns-clause-same : goal.returns-clause-same
returns-clause-same c = λ r a.
    none_same r (record { ases = c.new.result; ranks = c.new-2.result; ends = c.new-3.result; each = search rules; rising = search rules }) c.new.ensures.items c.new-3.ensures.items a
