-- What a simulation is made of.
use Rattle.std.specs.Prelude.{◌≡◌, ◌<◌, ℕ, suc, true, IsTrue, List, Option, None}
use Rattle.std.specs.FinSet as set
use Rattle.as_graph.specs.Topology.{Topology}
use Rattle.net_names.specs.Addresses.{AddrValue}
use Rattle.net_names.specs.Prefixes.{PrefixValue}
use Rattle.policy_kinds.specs.declared.kind.Kind.{Kind}
use Rattle.policy_kinds.specs.Kinds.{kind_policy}
use Rattle.roa_table.specs.Sets.{Payloads}
use Rattle.origin_validation.specs.Judging.{state_of}
use Rattle.stability_laws.specs.Book.{PolicyBook}
use Rattle.stability_laws.specs.Plans.{Plan, has_prefix}
use Rattle.stability_laws.specs.Rounds.{AreRounds}
use Rattle.stability_laws.specs.World.{setting}
use Rattle.route_choice.specs.declared.table.Table.{Table}
use Rattle.route_choice.specs.Resources.{AreEntriesLive}
use Rattle.route_choice.specs.Routings.{table_routing}
use Rattle.route_choice.specs.RoundTables.{AreAllLive, round_routing}
use Rattle.route_choice.specs.declared.round_tables.RoundTables.{RoundTables}
use Rattle.leak_round.specs.declared.rounds.Rounds.{Rounds}
use Rattle.leak_round.specs.Rounds.{kept as kept_rounds, plan_of, pool_of, round_count}
use Rattle.sim_core.specs.World.{World, graph_of, named, has_round}
use Rattle.sim_core.specs.Answers.{in_round, needs}
use Rattle.sim_core.specs.Families.{Family}
use Rattle.sim_core.specs.declared.errors.QueryError.{QueryError}
use Rattle.sim_core.specs.declared.errors.QueryError.TheVariants as refused

-- the world of a graph, payloads, a book of policies, a plan of so many rounds, and watched addresses
abbrev pub world_from : Topology → Payloads → PolicyBook Kind → Plan → ℕ → List AddrValue → World
world_from graph payloads book plan count watched = record { links = graph.links; payloads = payloads; kinds = book.named; plan = plan; rounds = count; watched = set.from_list watched }

-- the world of a graph, payloads, a book of policies, rounds and watched addresses
abbrev pub world_by : Topology → Payloads → PolicyBook Kind → Rounds → List AddrValue → World
world_by graph payloads book rounds watched = world_from graph payloads book (plan_of rounds) (round_count rounds) watched

-- the marks of the graph are the ASes that an announcement, a leak or a policy names
abbrev pub IsNamed : Topology → PolicyBook Kind → Plan → Type 0
IsNamed graph book plan = graph_of graph.links graph.marked ≡ graph_of graph.links (set.from_list (named plan book.named))

-- the tables are the stable routings of so many rounds of a graph, payloads, policies and a plan, and there are no others (Gao and Rexford 2001; RFC 7908, section 3)
pub record AreRoundsOf (graph : Topology) (payloads : Payloads) (book : PolicyBook Kind) (plan : Plan) (count : ℕ) (rounds : Rounds) : Type 0 where
  pub plan_is : plan_of rounds ≡ plan
  pub count_is : round_count rounds ≡ count
  pub stable : AreRounds (λ p. setting kind_policy graph book (state_of payloads p)) plan count (kept_rounds rounds)
  pub only : (other : Family) → AreRounds (λ p. setting kind_policy graph book (state_of payloads p)) plan count other → (before : ℕ) (prefix : PrefixValue) → before < count → IsTrue (has_prefix plan prefix) → (a : ℕ) → other (suc before) prefix a ≡ kept_rounds rounds (suc before) prefix a

-- the table is that of a round and a prefix that are there, and the paths of its entries can be read
pub record IsTableOf (w : World) (rounds : Rounds) (round : ℕ) (prefix : PrefixValue) (table : Table) : Type 0 where
  pub round_there : has_round w round ≡ true
  pub prefix_there : has_prefix w.plan prefix ≡ true
  pub live : AreEntriesLive (pool_of rounds) table
  pub routing : (a : ℕ) → table_routing (pool_of rounds) table a ≡ kept_rounds rounds round prefix a

-- the tables are those of a round that is there, and the paths of their entries can be read
pub record AreTablesOf (w : World) (rounds : Rounds) (round : ℕ) (tables : RoundTables) : Type 0 where
  pub round_there : has_round w round ≡ true
  pub live : AreAllLive (pool_of rounds) tables
  pub routing : (prefix : PrefixValue) (a : ℕ) → round_routing (pool_of rounds) tables prefix a ≡ kept_rounds rounds round prefix a

-- why there is no such table: the round or the prefix is not there
abbrev pub no_table : World → ℕ → PrefixValue → Option QueryError
no_table w round prefix = in_round w round (needs (has_prefix w.plan prefix) (refused.UnknownPrefix prefix) None)

-- why there are no such tables: the round is not there
abbrev pub no_round : World → ℕ → Option QueryError
no_round w round = in_round w round None
