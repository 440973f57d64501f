use Rattle.std.proofs.Common.{◌≡◌, take}
use Rattle.rank_order.specs.Placed.{asns_of}
use Rattle.rank_order.proofs.order.with_places.Given as goal

abbrev pub invariant-loop-at : goal.invariant-loop-at
invariant-loop-at l = asns_of l.placed.items ≡ take l.at l.ases
