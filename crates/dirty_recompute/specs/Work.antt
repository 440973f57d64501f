-- What holds between two turns.
use Rattle.std.specs.Prelude.{◌≡◌, ◌≢◌, ◌+◌, ◌≤◌, ℕ, Bool, true, false, Option, None, List, length, IsSome}
use Rattle.net_names.specs.declared.routes.Rel.{Rel}
use Rattle.net_names.specs.declared.routes.State.{State}
use Rattle.net_names.specs.Numbers.{occurs, IsDistinct}
use Rattle.net_names.specs.Prefixes.{PrefixValue as Prefix}
use Rattle.policy_laws.specs.Policy.{Policy}
use Rattle.as_graph.specs.Topology.{has}
use Rattle.path_pool.specs.declared.pool.PathPool.{PathPool}
use Rattle.path_pool.specs.Pool.{count_of, live_count}
use Rattle.stability_laws.specs.declared.entry.Entry.{Entry}
use Rattle.stability_laws.specs.declared.entry.Seed.{Seed}
use Rattle.stability_laws.specs.Offers.{Setting}
use Rattle.stability_laws.specs.Stable.{IsRight}
use Rattle.stability_laws.specs.Steps.{low}
use Rattle.route_choice.specs.declared.counts.TheConstants.{MOST_COUNTED}
use Rattle.route_choice.specs.declared.overlay.Overlay.{Overlay}
use Rattle.route_choice.specs.declared.prefix_world.PrefixWorld.{PrefixWorld}
use Rattle.route_choice.specs.declared.seeds.SeedIds.{SeedIds}
use Rattle.route_choice.specs.declared.table.Table.{Table}
use Rattle.route_choice.specs.PrefixWorlds.{setting_at}
use Rattle.route_choice.specs.Resources.{AreHeld, AreEntriesLive, AreSeedsLive}
use Rattle.route_choice.specs.Routings.{routing_of, seeds_of, table_routing}
use Rattle.route_choice.specs.Tables.{held_at}
use Rattle.dirty_recompute.specs.Exact.{IsCounted}
use Rattle.dirty_recompute.specs.Steps.{IsRightLow}
use Rattle.dirty_recompute.specs.declared.queue.Queue.{Queue}
use Rattle.dirty_recompute.specs.Queues.{waits, HasRanks}
use Rattle.dirty_recompute.specs.Resources.{has_change}

-- nobody who had a turn waits again, or comes before one who waits, or had two turns
pub record IsInOrder (le : ℕ → ℕ → Type 0) (queue : ℕ → Bool) (taken : List ℕ) : Type 0 where
  pub ahead : (b c : ℕ) → queue b ≡ true → occurs c taken ≡ true → le c b
  pub fresh : (b : ℕ) → queue b ≡ true → occurs b taken ≡ false
  pub distinct : IsDistinct taken

-- on the way upwards: who waits in neither queue is right, and who doesn't wait upwards is so by its customers' offers; the changed ASes differ in their Origin and Customer entries from what they held before, and each had its turn; whoever waits or had a turn counts
pub record IsUpWork (LowRight Right : (ℕ → Option Entry) → ℕ → Type 0) (le : ℕ → ℕ → Type 0) (relation : ℕ → ℕ → Option Rel) (touched : ℕ → Bool) (before f : ℕ → Option Entry) (changed up whole : ℕ → Bool) (taken : List ℕ) : Type 0 where
  pub low_right : (b : ℕ) → up b ≡ false → LowRight f b
  pub right : (b : ℕ) → up b ≡ false → whole b ≡ false → Right f b
  pub same : (b : ℕ) → changed b ≡ false → f b ≡ before b
  pub differs : (b : ℕ) → changed b ≡ true → low (f b) ≢ low (before b)
  pub put : (b : ℕ) → changed b ≡ true → occurs b taken ≡ true
  pub put_low : (b : ℕ) → changed b ≡ true → low (f b) ≡ f b
  pub order : IsInOrder le up taken
  pub queued : (b : ℕ) → up b ≡ true → IsCounted relation touched changed b
  pub queued_whole : (b : ℕ) → whole b ≡ true → IsCounted relation touched changed b
  pub done : (b : ℕ) → occurs b taken ≡ true → IsCounted relation touched changed b

-- on the way downwards: who doesn't wait is right, and all are so by their customers' offers; the changed ASes differ from what they held before, and those that had no turn on this way do so in their Origin and Customer entries; whoever waits or had a turn counts
pub record IsWholeWork (LowRight Right : (ℕ → Option Entry) → ℕ → Type 0) (le : ℕ → ℕ → Type 0) (relation : ℕ → ℕ → Option Rel) (touched : ℕ → Bool) (before f : ℕ → Option Entry) (changed whole : ℕ → Bool) (earlier taken : List ℕ) : Type 0 where
  pub low_right : (b : ℕ) → LowRight f b
  pub right : (b : ℕ) → whole b ≡ false → Right f b
  pub same : (b : ℕ) → changed b ≡ false → f b ≡ before b
  pub differs : (b : ℕ) → changed b ≡ true → f b ≢ before b
  pub differs_low : (b : ℕ) → changed b ≡ true → occurs b taken ≡ false → low (f b) ≢ low (before b)
  pub put_low : (b : ℕ) → changed b ≡ true → occurs b taken ≡ false → low (f b) ≡ f b
  pub order : IsInOrder le whole taken
  pub queued : (b : ℕ) → whole b ≡ true → IsCounted relation touched changed b
  pub done_up : (b : ℕ) → occurs b earlier ≡ true → IsCounted relation touched changed b
  pub done : (b : ℕ) → occurs b taken ≡ true → IsCounted relation touched changed b
  pub distinct_up : IsDistinct earlier

-- after so many turns upwards
pub record IsUpLoop (w : Setting) (seeds : ℕ → Option Seed) (rank : ℕ → ℕ) (touched : List ℕ) (before f : ℕ → Option Entry) (changed : ℕ → Bool) (up whole : Queue) (turns : ℕ) : Type 0 where
  pub taken : List ℕ
  pub work : IsUpWork (IsRightLow w seeds) (IsRight w seeds) (λ x y. rank x ≤ rank y) w.relation (λ b. occurs b touched) before f changed (waits rank up) (waits rank whole) taken
  pub ranks : HasRanks rank up
  pub ranks_whole : HasRanks rank whole
  pub count : length taken ≡ turns

-- after so many turns upwards, and so many downwards
pub record IsWholeLoop (w : Setting) (seeds : ℕ → Option Seed) (rank : ℕ → ℕ) (touched : List ℕ) (before f : ℕ → Option Entry) (changed : ℕ → Bool) (whole : Queue) (turns_up turns : ℕ) : Type 0 where
  pub earlier : List ℕ
  pub taken : List ℕ
  pub work : IsWholeWork (IsRightLow w seeds) (IsRight w seeds) (λ x y. rank y ≤ rank x) w.relation (λ b. occurs b touched) before f changed (waits rank whole) earlier taken
  pub ranks : HasRanks rank whole
  pub count_earlier : length earlier ≡ turns_up
  pub count : length taken ≡ turns

-- the same of what a table and changes of it stand for with the paths of a pool: after so many turns upwards
abbrev pub HasGoneUp : Setting → (ℕ → ℕ) → List ℕ → PathPool → SeedIds → Table → Overlay → Queue → Queue → ℕ → Type 0
HasGoneUp w rank touched pool seeds table overlay up whole turns =
    IsUpLoop w (seeds_of pool seeds) rank touched (table_routing pool table) (routing_of pool table overlay) (has_change overlay) up whole turns

-- and after so many upwards and so many downwards
abbrev pub HasGoneDown : Setting → (ℕ → ℕ) → List ℕ → PathPool → SeedIds → Table → Overlay → Queue → ℕ → ℕ → Type 0
HasGoneDown w rank touched pool seeds table overlay whole turns_up turns =
    IsWholeLoop w (seeds_of pool seeds) rank touched (table_routing pool table) (routing_of pool table overlay) (has_change overlay) whole turns_up turns

-- from the first pool on, for each AS of the graph that is changed and holds an entry at most one cell more is live, and no count has risen by more than one; no count was above 4,000,000,000, the entries are held, and the paths of the table's entries and the seeds are live
pub record CanGoOn (has : ℕ → Bool) (first pool : PathPool) (seeds : SeedIds) (table : Table) (overlay : Overlay) : Type 0 where
  pub ases : List ℕ
  pub distinct : IsDistinct ases
  pub are : (b : ℕ) → occurs b ases ≡ true → (has b ≡ true) × (has_change overlay b ≡ true) × IsSome (routing_of pool table overlay b)
  pub live : live_count pool ≤ live_count first + length ases
  pub counts : (k : ℕ) → count_of pool k ≤ count_of first k + length ases
  pub few : (k : ℕ) → count_of first k ≤ MOST_COUNTED
  pub held : AreHeld pool table overlay
  pub entries_live : AreEntriesLive pool table
  pub seeds_live : AreSeedsLive pool seeds

-- what could go on from any first pool can go on still
abbrev pub GoesOn : (ℕ → Bool) → PathPool → PathPool → SeedIds → Table → Overlay → Overlay → Type 0
GoesOn has old new seeds table before after =
    (first : PathPool) → CanGoOn has first old seeds table before → CanGoOn has first new seeds table after

-- the table holds entries only for ASes of the graph and touched ones, and is right at all ASes that aren't touched
pub record IsRightBut {P V : Type 0} (meaning : P → Policy) (state_of : V → Prefix → ℕ → State) (at : PrefixWorld P V) (pool : PathPool) (touched : List ℕ) : Type 0 where
  pub entries : (b : ℕ) → has at.graph.now b ≡ false → occurs b touched ≡ false → held_at at.table.now b ≡ None
  pub right : (b : ℕ) → has at.graph.now b ≡ true → occurs b touched ≡ false →
      IsRight (setting_at meaning state_of at) (seeds_of pool at.seeds.now) (table_routing pool at.table.now) b
