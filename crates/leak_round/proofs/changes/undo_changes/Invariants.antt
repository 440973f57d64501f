use Rattle.std.proofs.Common.{◌≡◌, ℕ, ◌+◌, ◌≤◌, length}
use Rattle.path_pool.specs.Pool.{holds_of}
use Rattle.route_choice.specs.Holds.{GivesBack}
use Rattle.leak_round.specs.Overlays.{changes_uses}
use Rattle.leak_round.proofs.changes.undo_changes.Given as goal

abbrev pub invariant-changes : goal.invariant-changes
invariant-changes l = record {
  held : (k : ℕ) → changes_uses l.left.items k ≤ holds_of l.pool k;
  holds : (k : ℕ) → holds_of l.pool k + changes_uses l.fn.changes.items k ≡ holds_of l.fn.pool k + changes_uses l.left.items k;
  back : GivesBack l.fn.pool l.pool;
}

abbrev pub decreases-changes : goal.decreases-changes
decreases-changes l = length l.left.items
