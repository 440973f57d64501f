-- The cells that are live are those on the paths of the cells that are held.
use Rattle.std.proofs.Common.{◌≡◌, ℕ, zero, suc, ◌+◌, ◌<◌, ◌≤◌, length, refl, subst, sym, inl, inr, arith}
use Rattle.std.specs.Prelude.{◌↔◌}
use Rattle.path_pool.specs.declared.pool.PathPool.{PathPool}
use Rattle.path_pool.specs.Pool.{IsLive, IsOver, list_of, holds_of, live_count}
use Rattle.path_pool.proofs.Needed.{needed_live, live_needed, tail_shorter}
use Rattle.path_pool.proofs.RegionLemmas.{length-list_of, len_le_live}
use Rattle.leak_round.specs.Reached.{IsReached, LiesOn}

module _ (p : PathPool) where
  -- what lies on the path of a live cell is live
  reached_live : (n j k : ℕ) → IsLive p j → IsReached p n j k → IsLive p k
  reached_live zero j k live same = subst (IsLive p) (sym same) live
  reached_live (suc n) j k live (i, reached, over) = needed_live p.cells.items p.free p.dead p.limit k p.region (inr (i, over))

  -- a path is no longer than there are live cells
  length_few : (k : ℕ) → IsLive p k → length (list_of p k) ≤ live_count p
  length_few k live = omega (arith, length-list_of p.cells.items k, len_le_live p.cells.items p.free p.dead p.limit k p.region live)

  -- a path is longer than its tail
  over_longer : (i k : ℕ) → IsOver p i k → length (list_of p i) ≡ length (list_of p k) + 1
  over_longer i k over = tail_shorter p.cells.items p.free p.dead p.limit i k p.region over.0 over.1

  -- a live cell lies on the path of one that is held, above which there are at most so many cells
  held_above : (n k : ℕ) → IsLive p k → live_count p ≤ length (list_of p k) + n → (j : ℕ) × (0 < holds_of p j) × LiesOn p k j
  held_above zero k live most = elim (live_needed p.cells.items k live) [
    | inl held ↦ (k, held, (0, refl))
    | inr (i, over) ↦ absurd (omega (arith, most, over_longer i k over, length_few i over.0))
  ]
  held_above (suc n) k live most = elim (live_needed p.cells.items k live) [
    | inl held ↦ (k, held, (0, refl))
    | inr (i, over) ↦ (let (j, held, (tails, reached)) = held_above n i over.0 (omega (arith, most, over_longer i k over)) in (j, held, (suc tails, (i, reached, over))))
  ]

  -- the cells that are live are those on the paths of cells that are held
  pub live_are_held : (k : ℕ) → IsLive p k ↔ ((j : ℕ) × (0 < holds_of p j) × LiesOn p k j)
  live_are_held k = (
    λ live. held_above (live_count p) k live (omega arith),
    λ some. (let (j, held, (tails, reached)) = some in reached_live tails j k (needed_live p.cells.items p.free p.dead p.limit j p.region (inl held)) reached),
  )

  -- so they are where each hold is a use
  pub live_are_used : (uses : ℕ → ℕ) → ((k : ℕ) → holds_of p k ≡ uses k) → (k : ℕ) → IsLive p k ↔ ((j : ℕ) × (0 < uses j) × LiesOn p k j)
  live_are_used uses same k = (
    λ live. (let (j, held, on) = (live_are_held k).0 live in (j, omega (arith, same j, held), on)),
    λ some. (let (j, used, on) = some in (live_are_held k).1 (j, omega (arith, same j, used), on)),
  )
