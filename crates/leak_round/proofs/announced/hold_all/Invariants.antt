use Rattle.std.proofs.Common.{◌≡◌, ℕ, ◌+◌, ◌≤◌, take}
use Rattle.path_pool.specs.Pool.{holds_of, count_of, live_count, limit_of}
use Rattle.leak_round.specs.Announced.{announced_uses}
use Rattle.leak_round.specs.Growth.{KeepsPaths}
use Rattle.leak_round.proofs.announced.hold_all.Given as goal

abbrev pub invariant-loop-one : goal.invariant-loop-one
invariant-loop-one l = record {
  holds : (k : ℕ) → holds_of l.pool k ≡ holds_of l.fn.pool k + announced_uses (take l.one-index l.announced) k;
  keeps : KeepsPaths l.fn.pool l.pool;
  counts : (k : ℕ) → count_of l.pool k ≤ count_of l.fn.pool k + l.one-index;
  cells : live_count l.pool ≡ live_count l.fn.pool;
  limit : limit_of l.pool ≡ limit_of l.fn.pool;
}
