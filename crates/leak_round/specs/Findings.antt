-- What the changes of tables need to be found, and what is found so far, said of what they are found by.
use Rattle.std.specs.Prelude.{◌≡◌, ◌⊎◌, ℕ, ◌+◌, ◌-◌, ◌*◌, ◌≤◌, true, None, Some, List, [], ◌∷◌, ◌++◌, length, slice_get}
use Rattle.net_names.specs.declared.routes.State.{State}
use Rattle.net_names.specs.Prefixes.{PrefixValue}
use Rattle.path_pool.specs.declared.pool.PathPool.{PathPool}
use Rattle.path_pool.specs.Pool.{holds_of}
use Rattle.as_graph.specs.Hierarchy.{IsRank}
use Rattle.as_graph.specs.Topology.{relation}
use Rattle.policy_laws.specs.Policy.{Policy}
use Rattle.rank_order.specs.Plans.{rank_after}
use Rattle.route_choice.specs.declared.overlay.Overlay.{Overlay}
use Rattle.route_choice.specs.declared.round_tables.RoundTables.{RoundTables}
use Rattle.route_choice.specs.declared.seeds.SeedIds.{SeedIds}
use Rattle.route_choice.specs.declared.table.Table.{Table}
use Rattle.route_choice.specs.Tables.{change_at, overlay_uses, places_of}
use Rattle.dirty_recompute.specs.declared.prefix_edit.PrefixEdit.{PrefixEdit}
use Rattle.leak_round.specs.declared.changes.Change.{Change}
use Rattle.leak_round.specs.declared.finding.Finding.{Finding}
use Rattle.leak_round.specs.declared.limits.TheConstants.{MOST_ROUNDS}
use Rattle.leak_round.specs.declared.round_prefix.RoundPrefix.{RoundPrefix}
use Rattle.leak_round.specs.Differing.{AreWrongIn}
use Rattle.leak_round.specs.Edited.{announced_after, seeds_after}
use Rattle.leak_round.specs.Growth.{HasRoomFor}
use Rattle.leak_round.specs.Leaked.{AreSeedsWith}
use Rattle.leak_round.specs.Overlays.{changes_uses, is_at, IsListed}
use Rattle.stability_laws.specs.Plans.{prefixes_of}
use Rattle.stability_laws.specs.World.{setting_in}
use Rattle.leak_round.specs.Found.{AreFound, AreFoundUpTo, CanFind, CanFindInTable, IsAdded, IsPaid, IsTableAdded, AreTableChanges, IsTurn}
use Rattle.leak_round.specs.Tables.{entry_uses}
use Rattle.leak_round.specs.Touched.{touches}

-- the planned ranks are those of the graph after the edit
abbrev pub AreRanked : {P V : Type 0} → Finding P V → Type 0
AreRanked x = (a : ℕ) → IsRank (relation x.world.now.graph.now) a (rank_after x.ranks.now.ranks.now x.ranks.now.plan.now a)

-- the changes of the tables can be found
abbrev pub CanFindBy : {P V : Type 0} → (P → Policy) → (V → PrefixValue → ℕ → State) → Finding P V → PathPool → List RoundTables → Type 0
CanFindBy meaning state_of x pool tables = CanFind (setting_in meaning state_of x.world.now) x.world.now.graph.now (touches x.touched.now) x.plan.now (seeds_after x.edited.now x.plan.now) x.announced.now (announced_after x.edited.now x.announced.now) pool tables

-- the changes so far are found
abbrev pub AreFoundBy : {P V : Type 0} → (P → Policy) → (V → PrefixValue → ℕ → State) → Finding P V → PathPool → List RoundTables → List Change → ℕ → ℕ → Type 0
AreFoundBy meaning state_of x pool tables changes first last = AreFound (setting_in meaning state_of x.world.now) x.world.now.graph.now (touches x.touched.now) x.plan.now (seeds_after x.edited.now x.plan.now) pool tables changes first last

-- the changes of a table of the prefix can be found for the edit
abbrev pub CanFindInTableBy : {P V : Type 0} → (P → Policy) → (V → PrefixValue → ℕ → State) → Finding P V → PrefixValue → PrefixEdit → PathPool → Table → Type 0
CanFindInTableBy meaning state_of x prefix edit pool table =
    CanFindInTable (setting_in meaning state_of x.world.now prefix) x.world.now.graph.now prefix edit.seeds.now edit.touched.now pool table

-- these are the changes of a table of the prefix for the edit
abbrev pub AreTableChangesBy : {P V : Type 0} → (P → Policy) → (V → PrefixValue → ℕ → State) → Finding P V → PrefixValue → PrefixEdit → PathPool → PathPool → Table → Table → ℕ → ℕ → Overlay → Type 0
AreTableChangesBy meaning state_of x prefix edit pool pool' table table' first last overlay =
    AreTableChanges (setting_in meaning state_of x.world.now prefix) x.world.now.graph.now edit.seeds.now edit.touched.now pool pool' table table' first last overlay

-- the changes of the table of the prefix in the round stand behind the others, those for the edit
abbrev pub IsTableAddedBy : {P V : Type 0} → (P → Policy) → (V → PrefixValue → ℕ → State) → Finding P V → RoundPrefix → PrefixEdit → PathPool → PathPool → List RoundTables → List RoundTables → List Change → List Change → ℕ → ℕ → Type 0
IsTableAddedBy meaning state_of x at edit pool pool' rounds rounds' xs ys first last =
    IsTableAdded (setting_in meaning state_of x.world.now at.prefix) x.world.now.graph.now edit.seeds.now edit.touched.now pool pool' rounds rounds' xs ys at.round at.prefix first last

-- the seeds of the table before the edit
abbrev pub AreSeedsBefore : {P V : Type 0} → Finding P V → RoundPrefix → List RoundTables → SeedIds → Type 0
AreSeedsBefore x at rounds seeds = AreSeedsWith x.plan.now x.announced.now rounds [] at.round at.prefix seeds

-- the seeds of the table after the edit, with the changes so far in place
abbrev pub AreSeedsAfter : {P V : Type 0} → Finding P V → RoundPrefix → List RoundTables → List Change → SeedIds → Type 0
AreSeedsAfter x at rounds xs seeds =
    AreSeedsWith (seeds_after x.edited.now x.plan.now) (announced_after x.edited.now x.announced.now) rounds xs at.round at.prefix seeds

-- these are the seeds of the table after the edit, and the list has each touched AS and each whose seed was another one before
abbrev pub AreWrongBy : {P V : Type 0} → Finding P V → RoundPrefix → List RoundTables → List Change → PathPool → SeedIds → List ℕ → Type 0
AreWrongBy x at rounds xs pool seeds ases =
    AreWrongIn x.plan.now (seeds_after x.edited.now x.plan.now) x.announced.now (announced_after x.edited.now x.announced.now)
    rounds xs at.round at.prefix (touches x.touched.now at.prefix) pool seeds ases

-- it is the turn of the table, and the changes of those before it are found
pub record CanFindNext {P V : Type 0} (meaning : P → Policy) (state_of : V → PrefixValue → ℕ → State) (x : Finding P V) (at : RoundPrefix) (pool : PathPool) (rounds : List RoundTables) (xs : List Change) (steps : ℕ) : Type 0 where
  pub ranks : AreRanked x
  pub can : CanFindBy meaning state_of x pool rounds
  pub place : slice_get (prefixes_of x.plan.now) at.place ≡ Some at.prefix
  pub held : (k : ℕ) → entry_uses rounds k + changes_uses xs k ≤ holds_of pool k
  pub room : HasRoomFor pool 1
  pub so_far : (first : ℕ) × AreFoundBy meaning state_of x pool rounds xs first steps
  pub turn : IsTurn x.plan.now (length rounds) xs at.round at.prefix

-- the changes of the table are found and paid for, and those before it stay so
pub record IsNextFound {P V : Type 0} (meaning : P → Policy) (state_of : V → PrefixValue → ℕ → State) (x : Finding P V) (at : RoundPrefix) (pool pool' : PathPool) (rounds rounds' : List RoundTables) (xs ys : List Change) (steps last : ℕ) : Type 0 where
  pub found : (first : ℕ) → AreFoundBy meaning state_of x pool rounds xs first steps → AreFoundBy meaning state_of x pool' rounds' ys first last
  pub added : IsAdded xs ys at.round at.prefix
  pub paid : IsPaid pool pool' xs ys 1

-- it is the turn of the round, and the changes of those before it are found
pub record CanFindRound {P V : Type 0} (meaning : P → Policy) (state_of : V → PrefixValue → ℕ → State) (x : Finding P V) (round : ℕ) (pool : PathPool) (rounds : List RoundTables) (xs : List Change) (steps : ℕ) : Type 0 where
  pub ranks : AreRanked x
  pub can : CanFindBy meaning state_of x pool rounds
  pub held : (k : ℕ) → entry_uses rounds k + changes_uses xs k ≤ holds_of pool k
  pub room : HasRoomFor pool (length (prefixes_of x.plan.now))
  pub so_far : (first : ℕ) × AreFoundBy meaning state_of x pool rounds xs first steps
  pub from : 1 ≤ round
  pub to : round ≤ length rounds
  pub earlier : AreFoundUpTo x.plan.now xs (round - 1)

-- the changes of the tables of at most 4 rounds can be found, and the pool has room
pub record CanFindAll {P V : Type 0} (meaning : P → Policy) (state_of : V → PrefixValue → ℕ → State) (x : Finding P V) (pool : PathPool) (rounds : List RoundTables) : Type 0 where
  pub ranks : AreRanked x
  pub can : CanFindBy meaning state_of x pool rounds
  pub held : (k : ℕ) → entry_uses rounds k ≤ holds_of pool k
  pub few : length rounds ≤ MOST_ROUNDS
  pub room : HasRoomFor pool (length rounds * length (prefixes_of x.plan.now))

-- the changes of all tables are found and paid for
pub record AreAllFound {P V : Type 0} (meaning : P → Policy) (state_of : V → PrefixValue → ℕ → State) (x : Finding P V) (pool pool' : PathPool) (rounds rounds' : List RoundTables) (ys : List Change) (first last : ℕ) : Type 0 where
  pub found : AreFoundBy meaning state_of x pool' rounds' ys first last
  pub whole : AreFoundUpTo x.plan.now ys (length rounds)
  pub paid : IsPaid pool pool' [] ys (length rounds * length (prefixes_of x.plan.now))

-- a change of the list is of the table of the prefix in the round, and it is none
pub record IsNoneIn (xs : List Change) (round : ℕ) (prefix : PrefixValue) : Type 0 where
  pub place : ℕ
  pub change : Change
  pub at : slice_get xs place ≡ Some change
  pub of_table : is_at round prefix change ≡ true
  pub none : (a : ℕ) → change_at change.overlay a ≡ None

-- no announcement is edited, and the table of the prefix in the round before, if there is one, has no change
pub record AreSeedsKept {P V : Type 0} (x : Finding P V) (at : RoundPrefix) (xs : List Change) : Type 0 where
  pub unedited : x.edited.now ≡ None
  pub before : (at.round ≡ 1) ⊎ IsNoneIn xs (at.round - 1) at.prefix

-- behind the others stands that the table of the prefix in the round has no change
pub record IsNoneAdded (xs ys : List Change) (round : ℕ) (prefix : PrefixValue) : Type 0 where
  pub overlay : Overlay
  pub items : ys ≡ xs ++ record { round = round; prefix = prefix; overlay = overlay } ∷ []
  pub none : (a : ℕ) → change_at overlay a ≡ None
  pub places : places_of overlay ≡ []
  pub uses : (k : ℕ) → overlay_uses overlay k ≡ 0
  pub listed : IsListed overlay
