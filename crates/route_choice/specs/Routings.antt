-- What tables stand for: a routing, that is for each AS an entry with its path written out, or none.
use Rattle.std.specs.Prelude.{ℕ, Option, option_map}
use Rattle.path_pool.specs.declared.pool.PathPool.{PathPool}
use Rattle.path_pool.specs.Pool.{list_of}
use Rattle.stability_laws.specs.declared.entry.Entry.{Entry}
use Rattle.stability_laws.specs.declared.entry.Seed.{Seed}
use Rattle.route_choice.specs.declared.held.Held.{Held}
use Rattle.route_choice.specs.declared.held.SeedHeld.{SeedHeld}
use Rattle.route_choice.specs.declared.table.Table.{Table}
use Rattle.route_choice.specs.declared.overlay.Overlay.{Overlay}
use Rattle.route_choice.specs.declared.seeds.SeedIds.{SeedIds}
use Rattle.route_choice.specs.Tables.{held_at, joined, seed_at}

-- The entry with its path from the pool.
abbrev pub entry_of : PathPool → Held → Entry
entry_of pool h = record { class = h.class; path = list_of pool h.path.0; otc = h.otc }

-- The seed with its path from the pool.
abbrev pub seed_of : PathPool → SeedHeld → Seed
seed_of pool s = record { path = list_of pool s.path.0; otc = s.otc }

-- The routing of a table.
abbrev pub table_routing : PathPool → Table → ℕ → Option Entry
table_routing pool table a = option_map (entry_of pool) (held_at table a)

-- The routing of a table with the changes in place.
abbrev pub routing_of : PathPool → Table → Overlay → ℕ → Option Entry
routing_of pool table overlay a = option_map (entry_of pool) (joined table overlay a)

-- The seeds.
abbrev pub seeds_of : PathPool → SeedIds → ℕ → Option Seed
seeds_of pool seeds a = option_map (seed_of pool) (seed_at seeds a)
