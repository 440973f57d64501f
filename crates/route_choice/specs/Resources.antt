-- What steps need and what they leave: holds, cells, counts and room.
use Rattle.std.specs.Prelude.{◌≡◌, ◌≢◌, ◌⊎◌, ℕ, ◌+◌, ◌≤◌, Option, None, Some, IsSome}
use Rattle.path_pool.specs.declared.pool.PathPool.{PathPool}
use Rattle.path_pool.specs.declared.pool.TheConstants.{MOST_COUNT}
use Rattle.path_pool.specs.Pool.{IsLive, list_of, holds_of, count_of, live_count, spare_of, limit_of}
use Rattle.stability_laws.specs.declared.entry.Entry.{Entry}
use Rattle.route_choice.specs.declared.held.Held.{Held}
use Rattle.route_choice.specs.declared.held.SeedHeld.{SeedHeld}
use Rattle.route_choice.specs.declared.table.Table.{Table}
use Rattle.route_choice.specs.declared.overlay.Overlay.{Overlay}
use Rattle.route_choice.specs.declared.seeds.SeedIds.{SeedIds}
use Rattle.route_choice.specs.declared.choice.Choice.{Choice}
use Rattle.route_choice.specs.declared.choice.Choice.TheVariants as choice
use Rattle.route_choice.specs.Tables.{table_uses, overlay_uses, overlay_spare, held_at, change_at, joined, seed_at}
use Rattle.route_choice.specs.Routings.{seeds_of}

-- The paths of all entries that the ASes hold are live.
abbrev pub AreLive : PathPool → Table → Overlay → Type 0
AreLive pool table overlay = (a : ℕ) (h : Held) → joined table overlay a ≡ Some h → IsLive pool h.path.0

-- The paths of all entries of the table are live.
abbrev pub AreEntriesLive : PathPool → Table → Type 0
AreEntriesLive pool table = (a : ℕ) (h : Held) → held_at table a ≡ Some h → IsLive pool h.path.0

-- The paths of all seeds are live.
abbrev pub AreSeedsLive : PathPool → SeedIds → Type 0
AreSeedsLive pool seeds = (a : ℕ) (s : SeedHeld) → seed_at seeds a ≡ Some s → IsLive pool s.path.0

-- Each path has at least as many outside holds as the table and the overlay together have entries with it.
abbrev pub AreHeld : PathPool → Table → Overlay → Type 0
AreHeld pool table overlay = (k : ℕ) → table_uses table k + overlay_uses overlay k ≤ holds_of pool k

-- The pool allows n more changes: the entries are held, the seeds' paths live, and there are n spare cells and at each
-- cell n more counts.
pub record CanChange (pool : PathPool) (seeds : SeedIds) (table : Table) (overlay : Overlay) (n : ℕ) : Type 0 where
  pub held : AreHeld pool table overlay
  pub seeds_live : AreSeedsLive pool seeds
  pub spare : n ≤ spare_of pool
  pub counts : (k : ℕ) → count_of pool k + n ≤ MOST_COUNT

-- n more steps can be made: the pool allows n more changes, and the overlay has room for n more ASes.
pub record CanStep (pool : PathPool) (seeds : SeedIds) (table : Table) (overlay : Overlay) (n : ℕ) : Type 0 where
  pub changes : CanChange pool seeds table overlay n
  pub room : n ≤ overlay_spare overlay

-- A choice that can be settled: there is such a seed, or the neighbour holds an entry.
abbrev pub IsNameable : SeedIds → Table → Overlay → ℕ → Choice → Type 0
IsNameable seeds table overlay a choice.Nothing = Unit {0}
IsNameable seeds table overlay a choice.Seed = IsSome (seed_at seeds a)
IsNameable seeds table overlay a (choice.Via n r) = IsSome (joined table overlay n)

-- The choice is an offer.
abbrev pub IsVia : Choice → Type 0
IsVia choice.Nothing = ⊥
IsVia choice.Seed = ⊥
IsVia (choice.Via n r) = Unit {0}

-- What a change of the AS takes: holds rise and fall with the overlay's entries, no count rises by more than one, live
-- cells rise by at most one, spare cells and room fall by at most one, and each cell that stays live keeps its path.
pub record Spends (pool pool' : PathPool) (overlay overlay' : Overlay) (a : ℕ) : Type 0 where
  pub holds : (k : ℕ) → holds_of pool' k + overlay_uses overlay k ≡ holds_of pool k + overlay_uses overlay' k
  pub lists : (k : ℕ) → IsLive pool k → IsLive pool' k → list_of pool' k ≡ list_of pool k
  pub counts : (k : ℕ) → count_of pool' k ≤ count_of pool k + 1
  pub live : live_count pool' ≤ live_count pool + 1
  pub spare : spare_of pool ≤ spare_of pool' + 1
  pub limit : limit_of pool' ≡ limit_of pool
  pub others : (b : ℕ) → b ≢ a → change_at overlay' b ≡ change_at overlay b
  pub room : overlay_spare overlay ≤ overlay_spare overlay' + 1
  pub same_room : IsSome (change_at overlay a) → overlay_spare overlay' ≡ overlay_spare overlay

-- From f to g the AS gives nothing up: the overlay had no change at it, or it held nothing, or it holds what it held.
abbrev pub GivesUpNothing : Overlay → (ℕ → Option Entry) → (ℕ → Option Entry) → ℕ → Type 0
GivesUpNothing overlay f g a = (change_at overlay a ≡ None) ⊎ ((f a ≡ None) ⊎ (g a ≡ f a))

-- All that was live stays live, with its path, and the seeds are as before.
pub record Keeps (pool pool' : PathPool) (seeds : SeedIds) : Type 0 where
  pub live : (k : ℕ) → IsLive pool k → IsLive pool' k
  pub lists : (k : ℕ) → IsLive pool k → list_of pool' k ≡ list_of pool k
  pub same_seeds : (a : ℕ) → seeds_of pool' seeds a ≡ seeds_of pool seeds a
