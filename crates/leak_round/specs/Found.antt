-- What the changes of tables need to be found, and what is found so far.
use Rattle.std.specs.Prelude.{◌≡◌, ◌≢◌, ◌⊎◌, ℕ, ◌+◌, ◌-◌, ◌*◌, ◌≤◌, Bool, true, false, IsTrue, is_some, Option, None, Some, List, [], ◌∷◌, ◌++◌, length}
use Rattle.std.specs.List.{list_any}
use Rattle.net_names.specs.Numbers.{occurs}
use Rattle.net_names.specs.Prefixes.{PrefixValue}
use Rattle.as_graph.specs.Topology.{Topology, relation, has}
use Rattle.path_pool.specs.declared.pool.PathPool.{PathPool}
use Rattle.path_pool.specs.Pool.{IsLive, list_of, holds_of, live_count, limit_of}
use Rattle.stability_laws.specs.declared.entry.Entry.{Entry}
use Rattle.stability_laws.specs.Offers.{Setting}
use Rattle.stability_laws.specs.Stable.{IsRight, IsStable}
use Rattle.stability_laws.specs.Plans.{Plan, has_prefix, announces}
use Rattle.stability_laws.specs.Rounds.{seeds_of as seeds_in}
use Rattle.route_choice.specs.declared.overlay.Overlay.{Overlay}
use Rattle.route_choice.specs.declared.round_tables.RoundTables.{RoundTables}
use Rattle.route_choice.specs.declared.seeds.SeedIds.{SeedIds}
use Rattle.route_choice.specs.declared.table.Table.{Table}
use Rattle.route_choice.specs.Resources.{AreEntriesLive, AreSeedsLive}
use Rattle.route_choice.specs.Routings.{routing_of, seeds_of, table_routing}
use Rattle.route_choice.specs.RoundTables.{table_at, PutsTable}
use Rattle.route_choice.specs.Tables.{held_at, overlay_uses, places_of, prefix_of, seed_at, table_uses, HasRoomForChanges}
use Rattle.dirty_recompute.specs.Exact.{IsExact, AreEnough}
use Rattle.dirty_recompute.specs.Resources.{has_change, SameTable}
use Rattle.leak_round.specs.declared.announced.Announced.{Announced}
use Rattle.leak_round.specs.declared.changes.Change.{Change}
use Rattle.leak_round.specs.Announced.{AreAnnounced}
use Rattle.leak_round.specs.Bounds.{Course, IsCountedIn}
use Rattle.leak_round.specs.Entries.{StandsIn, AreApart}
use Rattle.leak_round.specs.Growth.{KeepsPaths, GrowsBy}
use Rattle.leak_round.specs.Overlays.{is_at, change_in, laid_in, held_of, table_in, changes_uses, changes_count, IsListed, AreChangesOf}
use Rattle.leak_round.specs.Tables.{kept_in, entry_uses, AreRoundsFull}
use Rattle.as_graph.specs.declared.build.TheConstants.{MOST_ASES}

-- the changes of a table of the prefix can be found: it is right where no AS of the list is, and entries and seeds stand where they may and are live
pub record CanFindInTable (w : Setting) (g : Topology) (prefix : PrefixValue) (seeds : SeedIds) (ases : List ℕ) (pool : PathPool) (t : Table) : Type 0 where
  pub prefix_is : prefix_of t ≡ prefix
  pub entries : (b : ℕ) → has g b ≡ false → occurs b ases ≡ false → held_at t b ≡ None
  pub right : (b : ℕ) → has g b ≡ true → occurs b ases ≡ false → IsRight w (seeds_of pool seeds) (table_routing pool t) b
  pub at_ases : (b : ℕ) → has g b ≡ false → seed_at seeds b ≡ None
  pub seeds_live : AreSeedsLive pool seeds
  pub entries_live : AreEntriesLive pool t
  pub held : (k : ℕ) → table_uses t k ≤ holds_of pool k

-- these are the changes of a table: with them in place it stands for the one stable routing, and they are paid for
pub record AreTableChanges (w : Setting) (g : Topology) (seeds : SeedIds) (ases : List ℕ) (pool pool' : PathPool) (t t' : Table) (first last : ℕ) (o : Overlay) : Type 0 where
  pub exact : IsExact w (seeds_of pool seeds) (table_routing pool t) (routing_of pool' t' o) (has_change o)
  pub enough : AreEnough (relation g) (λ b. occurs b ases) (has_change o) first last
  pub spare : HasRoomForChanges t' o
  pub listed : IsListed o
  pub holds : (k : ℕ) → holds_of pool' k ≡ holds_of pool k + overlay_uses o k
  pub keeps : KeepsPaths pool pool'
  pub grows : GrowsBy pool pool' MOST_ASES
  pub cells : live_count pool' ≤ live_count pool + length (places_of o)

-- one table has perhaps more room, and the others are as before
pub record IsRoomed (old new : RoundTables) (prefix : PrefixValue) : Type 0 where
  pub was : Table
  pub now : Table
  pub was_at : table_at old prefix ≡ Some was
  pub puts : PutsTable old new prefix now
  pub same : SameTable was now

-- so it is in a round, and the tables of the other rounds are as before
pub record AreRoomed (old new : List RoundTables) (round : ℕ) (prefix : PrefixValue) : Type 0 where
  pub was : Table
  pub now : Table
  pub was_at : table_in old round prefix ≡ Some was
  pub now_at : table_in new round prefix ≡ Some now
  pub same : SameTable was now
  pub others : (r : ℕ) (p : PrefixValue) → (r ≢ round) ⊎ (p ≢ prefix) → table_in new r p ≡ table_in old r p

-- all tables have the entries that they had
pub record AreSame (old new : List RoundTables) : Type 0 where
  pub count : length new ≡ length old
  pub entries : (round : ℕ) (prefix : PrefixValue) (a : ℕ) → held_of new round prefix a ≡ held_of old round prefix a
  pub uses : (k : ℕ) → entry_uses new k ≡ entry_uses old k
  pub full : (pool : PathPool) (plan : Plan) → AreRoundsFull pool plan old → AreRoundsFull pool plan new

-- changes of the table of the prefix in the round are found, perhaps none
abbrev pub is_found : List Change → ℕ → PrefixValue → Bool
is_found xs round prefix = list_any (is_at round prefix) xs

-- the AS has a change for the prefix in the round
abbrev pub is_changed_in : List Change → ℕ → PrefixValue → ℕ → Bool
is_changed_in xs round prefix a = is_some (change_in xs round prefix a)

-- with the changes in place the table is stable for its seeds, and where it has a change it holds something else than before
pub record IsDone (w : Setting) (after : Plan) (round : ℕ) (prefix : PrefixValue) (old before now : ℕ → Option Entry) (changed : ℕ → Bool) : Type 0 where
  pub stable : IsStable w (seeds_in after round prefix before) now
  pub differs : (a : ℕ) → changed a ≡ true → now a ≢ old a

-- the edit with the changes that are found so far
abbrev pub course_of : Plan → Plan → (PrefixValue → ℕ → Bool) → PathPool → List RoundTables → List Change → Course
course_of plan after touched pool rounds xs = record { plan = plan; after = after; old = kept_in pool rounds; new = laid_in pool rounds xs; touched = touched; changed = is_changed_in xs }

-- the changes so far: each table of which changes are found is done, and for each two steps there is a triple of such a table that counts
pub record AreFound (w : PrefixValue → Setting) (g : Topology) (touched : PrefixValue → ℕ → Bool) (plan after : Plan) (pool : PathPool) (rounds : List RoundTables) (xs : List Change) (first last : ℕ) : Type 0 where
  pub changes : AreChangesOf rounds xs
  pub done : (round : ℕ) (prefix : PrefixValue) → is_found xs round prefix ≡ true → IsDone (w prefix) after round prefix (kept_in pool rounds round prefix) (laid_in pool rounds xs (round - 1) prefix) (laid_in pool rounds xs round prefix) (is_changed_in xs round prefix)
  pub triples : List (ℕ × (PrefixValue × ℕ))
  pub apart : AreApart triples
  pub of_tables : (x : ℕ × (PrefixValue × ℕ)) → StandsIn x triples → is_found xs x.0 x.1.0 ≡ true
  pub counted : (x : ℕ × (PrefixValue × ℕ)) → StandsIn x triples → IsCountedIn (relation g) (course_of plan after touched pool rounds xs) x
  pub enough : last ≤ first + 2 * length triples

-- the pool keeps its paths and has the holds of the new changes, and for each changed entry at most one cell more is live
pub record IsPaid (old new : PathPool) (xs ys : List Change) (tables : ℕ) : Type 0 where
  pub keeps : KeepsPaths old new
  pub holds : (k : ℕ) → holds_of new k + changes_uses xs k ≡ holds_of old k + changes_uses ys k
  pub grows : GrowsBy old new (MOST_ASES * tables)
  pub cells : live_count new + changes_count xs ≤ live_count old + changes_count ys

-- the pool has the holds of the new changes, and what is live still keeps its path
pub record IsCutOff (old new : PathPool) (xs ys : List Change) : Type 0 where
  pub holds : (k : ℕ) → holds_of new k + changes_uses xs k ≡ holds_of old k + changes_uses ys k
  pub lists : (k : ℕ) → IsLive old k → IsLive new k → list_of new k ≡ list_of old k
  pub limit : limit_of new ≡ limit_of old

-- the changes of the tables can be found: announced paths stand in the pool for both plans of seeds, announcing ASes are there, and each table is right but at touched ASes
pub record CanFind (w : PrefixValue → Setting) (g : Topology) (touched : PrefixValue → ℕ → Bool) (plan after : Plan) (xs ys : List Announced) (pool : PathPool) (rounds : List RoundTables) : Type 0 where
  pub prefixes : (prefix : PrefixValue) → has_prefix after prefix ≡ has_prefix plan prefix
  pub announced : AreAnnounced pool plan xs
  pub announced_after : AreAnnounced pool after ys
  pub full : AreRoundsFull pool plan rounds
  pub announcers : (prefix : PrefixValue) (a : ℕ) → IsTrue (announces after prefix a) → has g a ≡ true
  pub entries : (round : ℕ) (prefix : PrefixValue) (b : ℕ) → 1 ≤ round → round ≤ length rounds → IsTrue (has_prefix plan prefix) → has g b ≡ false → touched prefix b ≡ false → kept_in pool rounds round prefix b ≡ None
  pub right : (round : ℕ) (prefix : PrefixValue) (b : ℕ) → 1 ≤ round → round ≤ length rounds → IsTrue (has_prefix plan prefix) → has g b ≡ true → touched prefix b ≡ false → IsRight (w prefix) (seeds_in plan round prefix (kept_in pool rounds (round - 1) prefix)) (kept_in pool rounds round prefix) b
  pub only_ases : (prefix : PrefixValue) (b : ℕ) → (w prefix).has b ≡ has g b

-- of so many rounds, and no later one, the changes of each table are found
pub record AreFoundUpTo (plan : Plan) (xs : List Change) (rounds : ℕ) : Type 0 where
  pub only : (round : ℕ) (prefix : PrefixValue) → is_found xs round prefix ≡ true → round ≤ rounds
  pub whole : (round : ℕ) (prefix : PrefixValue) → 1 ≤ round → round ≤ rounds → IsTrue (has_prefix plan prefix) → is_found xs round prefix ≡ true

-- it is the turn of the table of the prefix in the round: its changes are not found yet, those of its table in the round before are, and none of a later round
pub record IsTurn (plan : Plan) (rounds : ℕ) (xs : List Change) (round : ℕ) (prefix : PrefixValue) : Type 0 where
  pub from : 1 ≤ round
  pub to : round ≤ rounds
  pub known : IsTrue (has_prefix plan prefix)
  pub fresh : is_found xs round prefix ≡ false
  pub latest : (r : ℕ) (p : PrefixValue) → is_found xs r p ≡ true → r ≤ round
  pub before : 2 ≤ round → is_found xs (round - 1) prefix ≡ true

-- the changes of one table more are found
pub record IsAdded (old new : List Change) (round : ℕ) (prefix : PrefixValue) : Type 0 where
  pub this : is_found new round prefix ≡ true
  pub kept : (r : ℕ) (p : PrefixValue) → is_found old r p ≡ true → is_found new r p ≡ true
  pub only : (r : ℕ) (p : PrefixValue) → is_found new r p ≡ true → (is_found old r p ≡ true) ⊎ ((r ≡ round) × (p ≡ prefix))

-- the changes of the table of the prefix in the round stand behind the others: they are those for these seeds and ASes, and the other tables are as before
pub record IsTableAdded (w : Setting) (g : Topology) (seeds : SeedIds) (ases : List ℕ) (pool pool' : PathPool) (rounds rounds' : List RoundTables) (xs ys : List Change) (round : ℕ) (prefix : PrefixValue) (first last : ℕ) : Type 0 where
  pub overlay : Overlay
  pub items : ys ≡ xs ++ record { round = round; prefix = prefix; overlay = overlay } ∷ []
  pub roomed : AreRoomed rounds rounds' round prefix
  pub found : AreTableChanges w g seeds ases pool pool' roomed.was roomed.now first last overlay
