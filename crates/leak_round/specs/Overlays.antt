-- Changes of the tables of rounds.
use Rattle.std.specs.Prelude.{◌≡◌, ◌≢◌, ◌⊎◌, ℕ, ◌+◌, ◌<◌, ◌≤◌, Bool, true, ◌&&◌, ◌==◌, if◌then◌else◌, nat_eq, Option, None, Some, is_some, IsSome, option_map, option_and_then, List, [], ◌∷◌, length, slice_get}
use Rattle.std.specs.List.{sum_by, IsDistinct}
use Rattle.net_names.specs.Numbers.{occurs, IsDistinct as AreApart}
use Rattle.net_names.specs.Prefixes.{PrefixValue}
use Rattle.net_names.specs.contracts.prefixes.PrefixPartialEq.TheImpl as same_prefix
use Rattle.path_pool.specs.declared.pool.PathPool.{PathPool}
use Rattle.path_pool.specs.Pool.{holds_of}
use Rattle.stability_laws.specs.declared.entry.Entry.{Entry}
use Rattle.stability_laws.specs.Plans.{Plan}
use Rattle.route_choice.specs.declared.held.Held.{Held}
use Rattle.route_choice.specs.declared.overlay.Overlay.{Overlay}
use Rattle.route_choice.specs.declared.round_tables.RoundTables.{RoundTables}
use Rattle.route_choice.specs.declared.table.Table.{Table}
use Rattle.route_choice.specs.Counted.{AreUsesCounted}
use Rattle.route_choice.specs.Routings.{entry_of}
use Rattle.route_choice.specs.RoundTables.{table_at, PutsTable}
use Rattle.route_choice.specs.Slots.{over}
use Rattle.route_choice.specs.Tables.{held_at, joined, prefix_of, change_at, places_of, overlay_uses, table_uses, HasRoomForChanges}
use Rattle.leak_round.specs.declared.changes.Change.{Change}
use Rattle.leak_round.specs.Tables.{tables_in, entry_uses, AreRoundsFull}
use Rattle.as_graph.specs.declared.build.TheConstants.{MOST_ASES}

-- the table of a prefix in a round
abbrev pub table_in : List RoundTables → ℕ → PrefixValue → Option Table
table_in rounds round prefix = option_and_then (λ tables. table_at tables prefix) (tables_in rounds round)

-- what an AS holds of a prefix in a round
abbrev pub held_of : List RoundTables → ℕ → PrefixValue → ℕ → Option Held
held_of rounds round prefix a = option_and_then (λ table. held_at table a) (table_in rounds round prefix)

-- the changes are those of the table of the prefix in the round
abbrev pub is_at : ℕ → PrefixValue → Change → Bool
is_at round prefix x = (x.round == round) && (same_prefix.ghosts).eq x.prefix prefix

-- the change at an AS for a prefix in a round, if there is one: a new entry, or none
abbrev pub change_in : List Change → ℕ → PrefixValue → ℕ → Option (Option Held)
change_in [] round prefix a = None
change_in (x ∷ xs) round prefix a = if is_at round prefix x then change_at x.overlay a else change_in xs round prefix a

-- what an AS holds of a prefix in a round with the changes in place
abbrev pub held_with : List RoundTables → List Change → ℕ → PrefixValue → ℕ → Option Held
held_with rounds xs round prefix a = over (change_in xs round prefix a) (held_of rounds round prefix a)

-- the same with its path
abbrev pub laid_in : PathPool → List RoundTables → List Change → ℕ → PrefixValue → ℕ → Option Entry
laid_in pool rounds xs round prefix a = option_map (entry_of pool) (held_with rounds xs round prefix a)

-- how many entries of the changes have the path
abbrev pub changes_uses : List Change → ℕ → ℕ
changes_uses xs k = sum_by (λ x. overlay_uses x.overlay k) xs

-- how many ASes have a change, in all tables
abbrev pub changes_count : List Change → ℕ
changes_count xs = sum_by (λ x. length (places_of x.overlay)) xs

-- there is such a table, with room for the changes
pub record FitsIn (rounds : List RoundTables) (x : Change) : Type 0 where
  pub table : Table
  pub at : table_in rounds x.round x.prefix ≡ Some table
  pub room : HasRoomForChanges table x.overlay

-- the ASes that have a change are listed, each once
pub record IsListed (o : Overlay) : Type 0 where
  pub whole : (a : ℕ) → occurs a (places_of o) ≡ is_some (change_at o a)
  pub apart : IsDistinct nat_eq (places_of o)

-- each of the changes has its table, and no two have the same
pub record AreChangesOf (rounds : List RoundTables) (xs : List Change) : Type 0 where
  pub fits : (i : ℕ) (x : Change) → slice_get xs i ≡ Some x → FitsIn rounds x
  pub apart : (i j : ℕ) (x y : Change) → i < j → slice_get xs i ≡ Some x → slice_get xs j ≡ Some y → (x.round ≢ y.round) ⊎ (x.prefix ≢ y.prefix)
  pub listed : (i : ℕ) (x : Change) → slice_get xs i ≡ Some x → IsListed x.overlay

-- there is a table of the prefix, with room for the changes, and the pool has the holds of both
pub record CanPut (old : RoundTables) (prefix : PrefixValue) (overlay : Overlay) (pool : PathPool) : Type 0 where
  pub was : Table
  pub at : table_at old prefix ≡ Some was
  pub room : HasRoomForChanges was overlay
  pub held : (k : ℕ) → table_uses was k + overlay_uses overlay k ≤ holds_of pool k

-- the table of the prefix has the changes in place, and the holds of what they replace are given back
pub record IsPut (old new : RoundTables) (prefix : PrefixValue) (overlay : Overlay) (pool pool' : PathPool) : Type 0 where
  pub was : Table
  pub now : Table
  pub was_at : table_at old prefix ≡ Some was
  pub puts : PutsTable old new prefix now
  pub entries : (a : ℕ) → held_at now a ≡ joined was overlay a
  pub prefix_is : prefix_of now ≡ prefix_of was
  pub counted : (k : ℕ) → AreUsesCounted now k
  pub holds : (k : ℕ) → table_uses now k + holds_of pool k ≡ table_uses was k + overlay_uses overlay k + holds_of pool' k

-- one table has the changes in place, and the others are as before
pub record IsCommitted (old new : List RoundTables) (x : Change) : Type 0 where
  pub before : RoundTables
  pub after : RoundTables
  pub was : Table
  pub now : Table
  pub count : length new ≡ length old
  pub before_at : tables_in old x.round ≡ Some before
  pub after_at : tables_in new x.round ≡ Some after
  pub others : (round : ℕ) → round ≢ x.round → tables_in new round ≡ tables_in old round
  pub was_at : table_at before x.prefix ≡ Some was
  pub puts : PutsTable before after x.prefix now
  pub entries : (a : ℕ) → held_at now a ≡ joined was x.overlay a
  pub prefix : prefix_of now ≡ prefix_of was
  pub counted : (k : ℕ) → AreUsesCounted now k
  pub uses : (k : ℕ) → entry_uses new k + table_uses was k ≡ entry_uses old k + table_uses now k

-- no more than 150,000 ASes hold something
abbrev pub AreFew : (ℕ → Option Entry) → Type 0
AreFew f = (ases : List ℕ) → AreApart ases → ((a : ℕ) → occurs a ases ≡ true → IsSome (f a)) → length ases ≤ MOST_ASES

-- with the changes in place the tables of the plan's prefixes stand for these routings, and the pool has the holds of all entries, and others
pub record IsLaid (plan : Plan) (routings : ℕ → PrefixValue → ℕ → Option Entry) (others : ℕ → ℕ) (pool : PathPool) (rounds : List RoundTables) (xs : List Change) : Type 0 where
  pub changes : AreChangesOf rounds xs
  pub full : AreRoundsFull pool plan rounds
  pub holds : (k : ℕ) → holds_of pool k ≡ entry_uses rounds k + changes_uses xs k + others k
  pub same : (round : ℕ) (prefix : PrefixValue) (a : ℕ) → laid_in pool rounds xs round prefix a ≡ routings round prefix a
