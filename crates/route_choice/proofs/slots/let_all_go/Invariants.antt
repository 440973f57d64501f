use Rattle.std.proofs.Common.{◌≡◌, ℕ, ◌+◌}
use Rattle.path_pool.specs.Pool.{holds_of}
use Rattle.route_choice.specs.Holds.{GivesBack}
use Rattle.route_choice.proofs.Uses.{uses_before}
use Rattle.route_choice.proofs.slots.let_all_go.Given as goal

abbrev pub invariant-loop-place : goal.invariant-loop-place
invariant-loop-place l = record {
  holds : (k : ℕ) → holds_of l.pool k + uses_before l.slots l.place k ≡ holds_of l.fn.pool k;
  back : GivesBack l.fn.pool l.pool;
}
