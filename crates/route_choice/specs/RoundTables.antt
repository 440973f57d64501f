-- What contracts see of the tables of a round: which table stands at a prefix, what it stands for, and how often each path
-- is used by all of them.
use Rattle.std.specs.Prelude.{◌≡◌, ◌≢◌, ℕ, ◌+◌, Option, Some, OnSome, option_map, option_and_then, unwrap_or}
use Rattle.std.specs.List.{sum_by}
use Rattle.std.specs.Borrow.{Fml, MutBor, LendsSo}
use Rattle.indexmap.specs.IndexMap.{get, values}
use Rattle.net_names.specs.Prefixes.{PrefixValue as Prefix}
use Rattle.net_names.specs.contracts.prefixes.PrefixPartialEq.TheImpl as same_prefix
use Rattle.path_pool.specs.declared.pool.PathPool.{PathPool}
use Rattle.stability_laws.specs.declared.entry.Entry.{Entry}
use Rattle.route_choice.specs.declared.table.Table.{Table}
use Rattle.route_choice.specs.declared.round_tables.RoundTables.{RoundTables}
use Rattle.route_choice.specs.contracts.round_tables.RoundTables as tables
use Rattle.route_choice.specs.contracts.table.Table as table
use Rattle.route_choice.specs.Tables.{prefix_of, table_uses}
use Rattle.route_choice.specs.Routings.{table_routing}
use Rattle.route_choice.specs.Resources.{AreEntriesLive}

-- The table that stands at a prefix, if there is one.
abbrev pub table_at : RoundTables → Prefix → Option Table
table_at r p = get (same_prefix.ghosts).eq r.tables p

-- How many entries of all tables have the path.
abbrev pub tables_uses : RoundTables → ℕ → ℕ
tables_uses r k = sum_by (λ t. table_uses t k) (values r.tables)

-- How many entries of the table at a prefix have the path, if there is one.
abbrev pub uses_at : RoundTables → Prefix → ℕ → ℕ
uses_at r p k = unwrap_or (option_map (λ t. table_uses t k) (table_at r p)) 0

-- The routing of a prefix: that of its table, or no entry at any AS where there is none.
abbrev pub round_routing : PathPool → RoundTables → Prefix → ℕ → Option Entry
round_routing pool r p a = option_and_then (λ t. table_routing pool t a) (table_at r p)

-- The paths of all entries of all tables are live.
abbrev pub AreAllLive : PathPool → RoundTables → Type 0
AreAllLive pool r = (p : Prefix) (t : Table) → table_at r p ≡ Some t → AreEntriesLive pool t

-- Each table stands at its own prefix.
abbrev pub AreByPrefix : RoundTables → Type 0
AreByPrefix r = (p : Prefix) (t : Table) → table_at r p ≡ Some t → prefix_of t ≡ p

-- The same tables stand at the same prefixes.
pub record SameTables (old new : RoundTables) : Type 0 where
  pub tables : (p : Prefix) → table_at new p ≡ table_at old p
  pub uses : (k : ℕ) → tables_uses new k ≡ tables_uses old k

-- The table stands at the prefix, in place of the one that stood there, and the others are as before.
pub record PutsTable (old new : RoundTables) (prefix : Prefix) (t : Table) : Type 0 where
  pub this : table_at new prefix ≡ Some t
  pub others : (p : Prefix) → p ≢ prefix → table_at new p ≡ table_at old p
  pub uses : (k : ℕ) → tables_uses new k + uses_at old prefix k ≡ tables_uses old k + table_uses t k

-- The tables end with the last table that is written through the result at the prefix, or as they were where there is none.
abbrev pub lends_table : MutBor RoundTables → Prefix → Option (MutBor Table) → Fml
lends_table r p result = LendsSo tables.the_row table.the_row r result (λ new t. OnSome result (PutsTable r.now new p t)) (λ new. SameTables r.now new)
