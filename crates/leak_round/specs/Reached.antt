-- Which cells of a pool lie on the path of a cell.
use Rattle.std.specs.Prelude.{◌≡◌, ℕ, zero, suc}
use Rattle.path_pool.specs.declared.pool.PathPool.{PathPool}
use Rattle.path_pool.specs.Pool.{IsOver}

-- the cell k is reached from the cell j by so many tails, one after the other
abbrev pub IsReached : PathPool → ℕ → ℕ → ℕ → Type 0
IsReached pool zero j k = k ≡ j
IsReached pool (suc tails) j k = (i : ℕ) × IsReached pool tails j i × IsOver pool i k

-- the cell k lies on the path of the cell j
abbrev pub LiesOn : PathPool → ℕ → ℕ → Type 0
LiesOn pool k j = (tails : ℕ) × IsReached pool tails j k
