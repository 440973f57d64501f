use Rattle.std.proofs.Common.{◌≡◌, ℕ, ◌<◌, true, get_or}
use Rattle.as_graph.specs.Topology.{has}
use Rattle.rank_order.specs.Plans.{is_numbered}
use Rattle.rank_order.proofs.check.has_all.Given as goal

abbrev pub invariant-loop-at : goal.invariant-loop-at
invariant-loop-at l = (k : ℕ) → k < l.at → has l.graph (get_or l.ends k 0) ≡ true → is_numbered l.plan (get_or l.ends k 0) ≡ true
