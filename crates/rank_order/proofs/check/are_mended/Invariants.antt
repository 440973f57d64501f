use Rattle.std.proofs.Common.{◌≡◌, ℕ, ◌<◌, true, get_or}
use Rattle.as_graph.specs.Topology.{relation, has}
use Rattle.rank_order.specs.Ranks.{rank_at}
use Rattle.rank_order.specs.Plans.{is_numbered, rank_after}
use Rattle.rank_order.specs.Mending.{IsMended}
use Rattle.rank_order.proofs.check.are_mended.Given as goal

abbrev pub invariant-loop-at : goal.invariant-loop-at
invariant-loop-at l =
    (k : ℕ) → k < l.at → (has l.graph (get_or l.plan.ases.items k 0) ≡ true) × IsMended (relation l.graph) (is_numbered l.plan) (rank_at l.ranks) (rank_after l.ranks l.plan) (get_or l.plan.ases.items k 0)
