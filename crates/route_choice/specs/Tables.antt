-- What contracts see of a table, of changes of it, and of seeds: what stands at each AS, how often each path is used, and
-- for how many more ASes there is room.
use Rattle.std.specs.Prelude.{◌≡◌, ℕ, ◌⊎◌, ◌<◌, ◌≤◌, [], IsSome, List, Option, nat_eq}
use Rattle.indexmap.specs.IndexMap.{get}
use Rattle.net_names.specs.Prefixes.{PrefixValue as Prefix}
use Rattle.route_choice.specs.declared.held.Held.{Held}
use Rattle.route_choice.specs.declared.held.SeedHeld.{SeedHeld}
use Rattle.route_choice.specs.declared.table.Table.{Table}
use Rattle.route_choice.specs.declared.table.room.TableRoom.{TableRoom}
use Rattle.route_choice.specs.declared.overlay.Overlay.{Overlay}
use Rattle.route_choice.specs.declared.seeds.SeedIds.{SeedIds}
use Rattle.route_choice.specs.Slots.{slot_at, entry_at, keys, missing_count, over, uses_of}

-- The prefix of a table.
abbrev pub prefix_of : Table → Prefix
prefix_of t = t.prefix

-- What an AS holds in a table.
abbrev pub held_at : Table → ℕ → Option Held
held_at t a = entry_at t.slots a

-- How many entries of a table have the path.
abbrev pub table_uses : Table → ℕ → ℕ
table_uses t k = uses_of t.slots k

-- The ASes for whose table there is room, in the order of its rows.
abbrev pub ases_of : TableRoom → List ℕ
ases_of r = r.ases.value.ases

-- The change at an AS, if there is one: a new entry, or none.
abbrev pub change_at : Overlay → ℕ → Option (Option Held)
change_at o a = slot_at o.changes a

-- The ASes that have a change, in the order in which they were first put.
abbrev pub places_of : Overlay → List ℕ
places_of o = keys o.changes

-- How many entries of an overlay have the path.
abbrev pub overlay_uses : Overlay → ℕ → ℕ
overlay_uses o k = uses_of o.changes k

-- For how many more ASes an overlay has room.
abbrev pub overlay_spare : Overlay → ℕ
overlay_spare o = o.changes.spare

-- The seed of an AS, if it has one.
abbrev pub seed_at : SeedIds → ℕ → Option SeedHeld
seed_at s a = get nat_eq s.seeds a

-- What an AS holds in a table with the changes in place.
abbrev pub joined : Table → Overlay → ℕ → Option Held
joined t o a = over (change_at o a) (held_at t a)

-- The table has room for the changes: it has no AS yet, or room for all ASes that have a change and no place in it.
abbrev pub HasRoomForChanges : Table → Overlay → Type 0
HasRoomForChanges t o = (keys t.slots ≡ []) ⊎ (missing_count t.slots (places_of o) ≤ t.slots.spare)

-- The overlay has the AS, or room for one more.
abbrev pub HasPlace : Overlay → ℕ → Type 0
HasPlace o a = IsSome (change_at o a) ⊎ (0 < overlay_spare o)
