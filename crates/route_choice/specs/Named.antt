-- The entry that a choice names, before and after its path is made.
use Rattle.std.specs.Prelude.{◌≡◌, ℕ, ◌+◌, ◌≤◌, Option, None, Some, ◌∷◌}
use Rattle.path_pool.specs.declared.pool.PathPool.{PathPool}
use Rattle.path_pool.specs.Pool.{IsLive, list_of, holds_of, count_of, live_count, spare_of, limit_of}
use Rattle.stability_laws.specs.declared.entry.Entry.{Entry}
use Rattle.route_choice.specs.declared.held.Held.{Held}
use Rattle.route_choice.specs.declared.settling.Wanted.{Wanted}
use Rattle.route_choice.specs.declared.settling.Wanted.TheVariants.{Nothing, Ready, Longer}
use Rattle.route_choice.specs.Slots.{use_of}
use Rattle.route_choice.specs.Routings.{entry_of}

-- The wanted entry: none, one with a path that is there, or one with the AS before such a path.
abbrev pub wanted_entry : PathPool → ℕ → Wanted → Option Entry
wanted_entry pool a Nothing = None
wanted_entry pool a (Ready h) = Some (entry_of pool h)
wanted_entry pool a (Longer h) = Some (record { class = h.class; path = a ∷ list_of pool h.path.0; otc = h.otc })

-- The path that the wanted entry needs is live.
abbrev pub IsWantedLive : PathPool → Wanted → Type 0
IsWantedLive pool Nothing = Unit {0}
IsWantedLive pool (Ready h) = IsLive pool h.path.0
IsWantedLive pool (Longer h) = IsLive pool h.path.0

-- The wanted entry needs a new cell.
abbrev pub IsLonger : Wanted → Type 0
IsLonger Nothing = ⊥
IsLonger (Ready h) = ⊥
IsLonger (Longer h) = Unit {0}

-- One more hold for the entry's path: no count rises by more than one, at most one cell is new, and each live cell
-- stays live with its path.
pub record Takes (old new : PathPool) (entry : Option Held) : Type 0 where
  pub holds : (k : ℕ) → holds_of new k ≡ holds_of old k + use_of k entry
  pub stays_live : (k : ℕ) → IsLive old k → IsLive new k
  pub lists : (k : ℕ) → IsLive old k → list_of new k ≡ list_of old k
  pub counts : (k : ℕ) → count_of new k ≤ count_of old k + 1
  pub live : live_count new ≤ live_count old + 1
  pub spare : spare_of old ≤ spare_of new + 1
  pub limit : limit_of new ≡ limit_of old
