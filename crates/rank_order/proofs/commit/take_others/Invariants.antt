use Rattle.std.proofs.Common.{◌≡◌, ℕ, cond, None, take}
use Rattle.std.specs.FinMap as map_of
use Rattle.net_names.specs.Numbers.{occurs}
use Rattle.rank_order.proofs.commit.take_others.Given as goal

abbrev pub invariant-loop-asn : goal.invariant-loop-asn
invariant-loop-asn l = (a : ℕ) → map_of.get l.ranks.by_as a ≡ cond (occurs a l.ases) (map_of.get l.fn.ranks.by_as a) (cond (occurs a (take l.asn-index l.ends)) None (map_of.get l.fn.ranks.by_as a))
