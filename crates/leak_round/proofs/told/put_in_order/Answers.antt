use Rattle.std.proofs.lemmas.List.Filters.{dedup_is}
use Rattle.leak_round.proofs.Ordering.{rising}
use Rattle.leak_round.proofs.told.put_in_order.Goals as goal

pub returns : goal.returns
returns c = rising _ _ _ c.sort_unstable.ensures.permutation c.sort_unstable.ensures.sorted (dedup_is _ _ _ c.dedup.ensures.filtered)
