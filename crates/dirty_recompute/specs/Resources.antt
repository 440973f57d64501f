-- What steps need of a pool and an overlay, and what they leave of them.
use Rattle.std.specs.Prelude.{◌≡◌, ◌≢◌, ◌⊎◌, ℕ, ◌+◌, ◌<◌, ◌≤◌, ◌==◌, if◌then◌else◌, Bool, true, List, length, Option, Some, is_some, option_map, IsSome}
use Rattle.net_names.specs.Numbers.{occurs, IsDistinct}
use Rattle.path_pool.specs.declared.pool.PathPool.{PathPool}
use Rattle.path_pool.specs.declared.pool.TheConstants.{MOST_COUNT}
use Rattle.path_pool.specs.Pool.{IsLive, list_of, holds_of, count_of, live_count, limit_of}
use Rattle.stability_laws.specs.declared.entry.Entry.{Entry}
use Rattle.route_choice.specs.declared.held.Held.{Held}
use Rattle.route_choice.specs.declared.overlay.Overlay.{Overlay}
use Rattle.route_choice.specs.declared.seeds.SeedIds.{SeedIds}
use Rattle.route_choice.specs.declared.table.Table.{Table}
use Rattle.route_choice.specs.Resources.{AreHeld, AreSeedsLive, Keeps}
use Rattle.route_choice.specs.Routings.{entry_of, routing_of}
use Rattle.route_choice.specs.Tables.{change_at, held_at, overlay_uses, prefix_of, table_uses}

-- the overlay has a change at the AS
abbrev pub has_change : Overlay → ℕ → Bool
has_change o a = is_some (change_at o a)

-- a step can be made: the entries are held, the seeds' paths are live, and each count may rise by one
pub record CanTurn (pool : PathPool) (seeds : SeedIds) (table : Table) (overlay : Overlay) : Type 0 where
  pub held : AreHeld pool table overlay
  pub seeds_live : AreSeedsLive pool seeds
  pub counts : (k : ℕ) → count_of pool k < MOST_COUNT

-- all that was live stays live with its path, the seeds are as before, and holds rise and fall with the overlay's entries
pub record IsKept (old new : PathPool) (seeds : SeedIds) (before after : Overlay) : Type 0 where
  pub keeps : Keeps old new seeds
  pub holds : (k : ℕ) → holds_of new k + overlay_uses before k ≡ holds_of old k + overlay_uses after k
  pub limit : limit_of new ≡ limit_of old

-- from f to g no more cells are live and no count has risen; or a got another entry, at most one cell more is live, and no count has risen by more than one
abbrev pub IsPaidFor : PathPool → PathPool → (ℕ → Option Entry) → (ℕ → Option Entry) → ℕ → Type 0
IsPaidFor old new f g a =
    ((live_count new ≤ live_count old) × ((k : ℕ) → count_of new k ≤ count_of old k))
    ⊎ ((g a ≢ f a) × IsSome (g a) × (live_count new ≤ live_count old + 1) × ((k : ℕ) → count_of new k ≤ count_of old k + 1))

-- f is the routing that stands, but for a, at which f has the entry `before`, whose path is live
pub record IsBefore (pool : PathPool) (table : Table) (overlay : Overlay) (a : ℕ) (before : Option Held) (f : ℕ → Option Entry) : Type 0 where
  pub this : f a ≡ option_map (entry_of pool) before
  pub others : (n : ℕ) → n ≢ a → f n ≡ routing_of pool table overlay n
  pub live : (h : Held) → before ≡ Some h → IsLive pool h.path.0

-- for each AS that has a new entry in the overlay at most one cell more is live, and no count has risen by more than one
pub record FewNewCells (old new : PathPool) (overlay : Overlay) : Type 0 where
  pub ases : List ℕ
  pub distinct : IsDistinct ases
  pub entries : (a : ℕ) → occurs a ases ≡ true → (h : Held) × (change_at overlay a ≡ Some (Some h))
  pub few : live_count new ≤ live_count old + length ases
  pub counts : (k : ℕ) → count_of new k ≤ count_of old k + length ases

-- what the AS held before its last step, and what all others hold
abbrev pub as_before : PathPool → Table → Overlay → ℕ → Option Held → ℕ → Option Entry
as_before pool table overlay a before n = if n == a then option_map (entry_of pool) before else routing_of pool table overlay n

-- the holds are as before, each path that was held is live, and whatever is still live keeps its path
pub record IsUndone (old new : PathPool) : Type 0 where
  pub holds : (k : ℕ) → holds_of new k ≡ holds_of old k
  pub held_live : (k : ℕ) → 0 < holds_of old k → IsLive new k
  pub lists : (k : ℕ) → IsLive old k → IsLive new k → list_of new k ≡ list_of old k

-- the table stands for the same prefix and has the same entries
pub record SameTable (old new : Table) : Type 0 where
  pub prefix : prefix_of new ≡ prefix_of old
  pub entries : (a : ℕ) → held_at new a ≡ held_at old a
  pub uses : (k : ℕ) → table_uses new k ≡ table_uses old k
