use Rattle.rank_order.proofs.Putting.{IsPutting}
use Rattle.rank_order.proofs.commit.put_all.Given as goal

abbrev pub invariant-loop-at : goal.invariant-loop-at
invariant-loop-at l = IsPutting l.ases l.given l.fn.ranks.by_as l.at l.ranks
