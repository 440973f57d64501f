-- What contracts see of a pool: the path of each live cell, its outside holds, its count, and how many cells are live,
-- are spare and may be live. The paths and the rest are those of the pool's region of cells.
use Rattle.std.specs.Prelude.{◌≡◌, ℕ, ◌+◌, ◌<◌, ◌≤◌, List, Option, Some}
use Rattle.path_pool.specs.declared.path_id.PathId.{PathId}
use Rattle.path_pool.specs.declared.pool.PathPool.{PathPool}
use Rattle.path_pool.specs.declared.error.PoolError.{PoolError}
use Rattle.path_pool.specs.declared.error.PoolError.TheVariants.{Memory, Full}
use Rattle.path_pool.specs.Region as region

-- The name stands for a path.
abbrev pub IsLive : PathPool → ℕ → Type 0
IsLive p id = region.IsLive p.cells.items id

-- The ASes of the path, first to last.
abbrev pub list_of : PathPool → ℕ → List ℕ
list_of p id = region.list_of p.cells.items id

-- The first AS of the path.
abbrev pub head_of : PathPool → ℕ → ℕ
head_of p id = (region.cell_at p.cells.items id).head

-- The path after its first AS, where there is more than one AS.
abbrev pub tail_of : PathPool → ℕ → Option PathId
tail_of p id = region.tail_of (region.cell_at p.cells.items id)

-- The ASes of a tail that may be missing.
abbrev pub tail_list : PathPool → Option PathId → List ℕ
tail_list p tail = region.tail_list p.cells.items tail

-- The outside holds of the path.
abbrev pub holds_of : PathPool → ℕ → ℕ
holds_of p id = region.holds_of p.cells.items id

-- The live cell j has id as its tail.
abbrev pub IsOver : PathPool → ℕ → ℕ → Type 0
IsOver p j id = IsLive p j × (tail_of p j ≡ Some (record { 0 = id }))

-- How many live cells have id as their tail.
abbrev pub over_count : PathPool → ℕ → ℕ
over_count p id = region.cells_above p.cells.items id

-- How often the path is needed.
abbrev pub count_of : PathPool → ℕ → ℕ
count_of p id = (region.cell_at p.cells.items id).count

-- How many cells are live.
abbrev pub live_count : PathPool → ℕ
live_count p = region.live_count p.cells.items

-- How many paths can be made without memory.
abbrev pub spare_of : PathPool → ℕ
spare_of p = p.dead + p.room

-- How many cells may be live at once.
abbrev pub limit_of : PathPool → ℕ
limit_of p = p.limit

-- A new path is there, with one outside hold, no count rises by more than one, and nothing else has changed.
abbrev pub GainsPath : PathPool → PathPool → ℕ → List ℕ → Type 0
GainsPath old new id numbers = region.GainsCell old.cells.items new.cells.items id numbers

-- A new path is there, over an old one that has passed one outside hold on to it, and nothing else has changed.
abbrev pub PassesHold : PathPool → PathPool → ℕ → ℕ → List ℕ → Type 0
PassesHold old new from id numbers = region.PassesHold old.cells.items new.cells.items from id numbers

-- A new path is there, of new cells and with one outside hold, no count rises by more than one, and each other hold and
-- path is as before.
abbrev pub GainsWholePath : PathPool → PathPool → ℕ → List ℕ → Type 0
GainsWholePath old new id numbers = region.GainsCells old.cells.items new.cells.items id numbers

-- A path has one outside hold more, no count rises by more than one, and nothing else has changed.
abbrev pub GainsHold : PathPool → PathPool → ℕ → Type 0
GainsHold old new id = region.GainsHold old.cells.items new.cells.items id

-- A path has one outside hold less, no count rises, and nothing else has changed but which cells are live.
abbrev pub LosesHold : PathPool → PathPool → ℕ → Type 0
LosesHold old new id = region.LosesHold old.cells.items new.cells.items id

-- The paths, the holds and the counts are as before.
abbrev pub SamePaths : PathPool → PathPool → Type 0
SamePaths old new = region.SameCells old.cells.items new.cells.items

-- Why so many cells beside the live ones are refused: there are too many, which the error tells in numbers, or there are not.
abbrev pub IsRefusal : PoolError → ℕ → ℕ → ℕ → Type 0
IsRefusal Memory live asked limit = live + asked ≤ limit
IsRefusal (Full l a m) live asked limit = (limit < live + asked) × (l ≡ live) × (a ≡ asked) × (m ≡ limit)
