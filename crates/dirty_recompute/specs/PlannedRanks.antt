-- The ranks after an edit.
use Rattle.std.specs.Prelude.{ℕ}
use Rattle.rank_order.specs.Plans.{rank_after}
use Rattle.dirty_recompute.specs.declared.planned_ranks.PlannedRanks.{PlannedRanks}

-- the rank of an AS after the edit
unfoldable pub rank_of : PlannedRanks → ℕ → ℕ
rank_of r a = rank_after r.ranks.now r.plan.now a
