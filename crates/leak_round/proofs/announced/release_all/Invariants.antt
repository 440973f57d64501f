use Rattle.std.proofs.Common.{◌≡◌, ℕ, ◌+◌, take}
use Rattle.path_pool.specs.Pool.{holds_of}
use Rattle.route_choice.specs.Holds.{GivesBack}
use Rattle.leak_round.specs.Announced.{announced_uses}
use Rattle.leak_round.proofs.announced.release_all.Given as goal

abbrev pub invariant-loop-one : goal.invariant-loop-one
invariant-loop-one l = record {
  holds : (k : ℕ) → holds_of l.pool k + announced_uses (take l.one-index l.announced) k ≡ holds_of l.fn.pool k;
  back : GivesBack l.fn.pool l.pool;
}
