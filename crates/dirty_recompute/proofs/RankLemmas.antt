-- The ranks after an edit.
use Rattle.std.proofs.Common.{◌≡◌, ℕ, suc, ◌≤◌, Some}
use Rattle.net_names.specs.declared.routes.Rel.TheVariants.{Customer}
use Rattle.as_graph.specs.Topology.{Topology, relation}
use Rattle.as_graph.specs.Hierarchy.{HasNoProviderCycle, IsRank, RanksFit}
use Rattle.rank_order.specs.Plans.{rank_after}
use Rattle.dirty_recompute.specs.declared.planned_ranks.PlannedRanks.{PlannedRanks}
use Rattle.dirty_recompute.specs.PlannedRanks.{rank_of}

-- they fall from providers to customers
pub they_fall : (r : PlannedRanks) (w : Topology) → RanksFit → HasNoProviderCycle (relation w) → ((a : ℕ) → IsRank (relation w) a (rank_after r.ranks.now r.plan.now a)) → (a b : ℕ) → relation w a b ≡ Some Customer → suc (rank_of r b) ≤ rank_of r a
unfolding rank_of
they_fall r w fit no_cycle ranks a b link = (fit w (rank_after r.ranks.now r.plan.now) no_cycle ranks a).above b link
