-- How often a path may be needed.
use Rattle.std.proofs.Common.{ℕ, ◌+◌, ◌≤◌, Bool, true, false, cond, ◌&&◌, ◌==◌, nat_lt, List, [], ◌∷◌, arith}
use Rattle.std.specs.List.{count_by}
use Rattle.std.proofs.lemmas.List.Sums.{sum_by-cons}
use Rattle.path_pool.specs.declared.pool.Cell.{Cell}
use Rattle.path_pool.specs.declared.pool.PathPool.{PathPool}
use Rattle.path_pool.specs.Pool.{count_of, holds_of, live_count}
use Rattle.path_pool.specs.Region.{is_live, is_above}

-- a cell over another is live
above_live : (i : ℕ) (c : Cell) → cond (is_above i c) 1 0 ≤ cond (is_live c) 1 0
above_live i c = by (nat_lt 0 c.count) (nat_lt 1 c.len) (c.tail == i)
  where
    by : (a b d : Bool) → cond ((a && b) && d) 1 0 ≤ cond a 1 0
    by false b d = omega arith
    by true false d = omega arith
    by true true false = omega arith
    by true true true = omega arith

above-le : (i : ℕ) (xs : List Cell) → count_by (is_above i) xs ≤ count_by is_live xs
above-le i [] = omega arith
above-le i (x ∷ xs) = omega (arith, sum_by-cons (λ c. cond (is_above i c) 1 0) x xs, sum_by-cons (λ c. cond (is_live c) 1 0) x xs, above_live i x, above-le i xs)

-- a path is needed no more often than it is held and cells are live
pub count_of-le : (p : PathPool) (k : ℕ) → count_of p k ≤ holds_of p k + live_count p
count_of-le p k = omega (arith, above-le k p.cells.items)
