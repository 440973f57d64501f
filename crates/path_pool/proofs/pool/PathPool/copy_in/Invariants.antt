use Rattle.std.proofs.Common.{◌≡◌, ◌+◌, ◌<◌, drop, length}
use Rattle.path_pool.specs.Pool.{GainsWholePath, live_count, spare_of, limit_of}
use Rattle.path_pool.proofs.pool.PathPool.copy_in.Given as goal

abbrev pub invariant-numbers : goal.invariant-numbers
invariant-numbers l = record {
  inside : l.left < length l.numbers;
  made : GainsWholePath l.fn.self l.self l.path.0 (drop l.left l.numbers);
  live : live_count l.self + l.left ≡ live_count l.fn.self + length l.numbers;
  spare : spare_of l.self + length l.numbers ≡ spare_of l.fn.self + l.left;
  limit : limit_of l.self ≡ limit_of l.fn.self;
}

abbrev pub decreases-numbers : goal.decreases-numbers
decreases-numbers l = l.left
