-- What the tables of rounds stand for.
use Rattle.std.specs.Prelude.{◌≡◌, ℕ, ◌≤◌, zero, suc, IsTrue, Option, None, Some, is_some, option_and_then, List, slice_get}
use Rattle.std.specs.List.{sum_by}
use Rattle.net_names.specs.Prefixes.{PrefixValue}
use Rattle.path_pool.specs.declared.pool.PathPool.{PathPool}
use Rattle.stability_laws.specs.declared.entry.Entry.{Entry}
use Rattle.stability_laws.specs.Offers.{Setting}
use Rattle.stability_laws.specs.Stable.{IsStable}
use Rattle.stability_laws.specs.Plans.{Plan, has_prefix, prefixes_of}
use Rattle.stability_laws.specs.Rounds.{seeds_of}
use Rattle.route_choice.specs.declared.round_tables.RoundTables.{RoundTables}
use Rattle.route_choice.specs.RoundTables.{table_at, tables_uses, uses_at, round_routing, AreAllLive, AreByPrefix}
use Rattle.as_graph.specs.declared.build.TheConstants.{MOST_ASES}

-- the tables of a round, where round 1 is the first of the list
abbrev pub tables_in : List RoundTables → ℕ → Option RoundTables
tables_in rounds zero = None
tables_in rounds (suc before) = slice_get rounds before

-- what an AS holds of a prefix in a round, with its path
abbrev pub kept_in : PathPool → List RoundTables → ℕ → PrefixValue → ℕ → Option Entry
kept_in pool rounds round prefix a = option_and_then (λ tables. round_routing pool tables prefix a) (tables_in rounds round)

-- how many entries of all rounds have the path
abbrev pub entry_uses : List RoundTables → ℕ → ℕ
entry_uses rounds k = sum_by (λ tables. tables_uses tables k) rounds

-- the uses of the tables of all prefixes of the plan are all uses, and no table has more than 150,000 entries with one path
pub record AreOfSize (plan : Plan) (tables : RoundTables) : Type 0 where
  pub sums : (k : ℕ) → tables_uses tables k ≡ sum_by (λ prefix. uses_at tables prefix k) (prefixes_of plan)
  pub small : (prefix : PrefixValue) (k : ℕ) → uses_at tables prefix k ≤ MOST_ASES

-- there is a table for just the prefixes of the plan, each at its own, and the paths of all entries are live
pub record AreFull (pool : PathPool) (plan : Plan) (tables : RoundTables) : Type 0 where
  pub there : (prefix : PrefixValue) → is_some (table_at tables prefix) ≡ has_prefix plan prefix
  pub by_prefix : AreByPrefix tables
  pub live : AreAllLive pool tables
  pub size : AreOfSize plan tables

-- so are the tables of each round
abbrev pub AreRoundsFull : PathPool → Plan → List RoundTables → Type 0
AreRoundsFull pool plan rounds = (round : ℕ) (tables : RoundTables) → tables_in rounds round ≡ Some tables → AreFull pool plan tables

-- each table of the round is stable for the seeds of the round, where leakers look up what they leak in the given routings
abbrev pub IsRound : (PrefixValue → Setting) → Plan → ℕ → (PrefixValue → ℕ → Option Entry) → (PrefixValue → ℕ → Option Entry) → Type 0
IsRound setting plan round before now = (prefix : PrefixValue) → IsTrue (has_prefix plan prefix) → IsStable (setting prefix) (seeds_of plan round prefix (before prefix)) (now prefix)
