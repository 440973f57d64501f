-- The tables of a trial, with their watch.
use Rattle.std.specs.Prelude.{◌≡◌, ◌≢◌, ℕ, Bool, true, false, IsTrue, is_some, Option, Some, List, All, map}
use Rattle.net_names.specs.Numbers.{occurs}
use Rattle.net_names.specs.Prefixes.{PrefixValue}
use Rattle.net_names.specs.declared.routes.Rel.{Rel}
use Rattle.as_graph.specs.Topology.{Topology, relation}
use Rattle.origin_validation.specs.Judging.{state_of}
use Rattle.policy_kinds.specs.Kinds.{kind_policy}
use Rattle.policy_kinds.specs.declared.kind.Kind.{Kind}
use Rattle.stability_laws.specs.Book.{PolicyBook, policy_at}
use Rattle.stability_laws.specs.Plans.{Plan, has_prefix}
use Rattle.stability_laws.specs.Rounds.{AreRounds}
use Rattle.stability_laws.specs.World.{setting}
use Rattle.stability_laws.specs.declared.entry.Entry.{Entry}
use Rattle.route_choice.specs.RoundTables.{AreAllLive, round_routing, table_at}
use Rattle.data_trace.specs.Hops.{next_hop}
use Rattle.data_trace.specs.Views.{addr_of, rows_of}
use Rattle.data_trace.specs.Watches.{AreRows, Row}
use Rattle.leak_round.specs.Rounds.{is_open, kept, plan_of, round_count}
use Rattle.leak_round.specs.Touched.{touches}
use Rattle.leak_round.specs.declared.rounds.Rounds.{Rounds}
use Rattle.leak_round.specs.declared.touched.Touched.{Touched}
use Rattle.trial_world.specs.Fixed.{label_in, world_of}
use Rattle.trial_world.specs.declared.fixed.Fixed.{Fixed}
use Rattle.trial_world.specs.declared.tables.Seen.{Seen}
use Rattle.trial_world.specs.declared.tables.LineTables.{LineTables}

-- the rows are those of all ASes for the line's address, by what is held in its round
abbrev pub AreLineRows : Fixed → (PrefixValue → ℕ → Option Entry) → List Row → Type 0
AreLineRows f held rows = AreRows f.graph.now (next_hop (world_of f).plan held f.addr) (label_in f) rows

-- the rounds are those of the line, and none of their changes is open
pub record AreLineRounds (f : Fixed) (r : Rounds) : Type 0 where
  pub closed : is_open r ≡ false
  pub plan_is : plan_of r ≡ f.plan
  pub count_is : round_count r ≡ f.round

-- the tables are those of the line's round, one for each prefix of the line's plan, with the pool in which their paths stand and the whole plan
pub record IsSeen (f : Fixed) (rounds : Rounds) (seen : Seen) : Type 0 where
  pub routing : (p : PrefixValue) (a : ℕ) → round_routing seen.pool.now seen.tables.now p a ≡ kept rounds f.round p a
  pub prefixes : (p : PrefixValue) → is_some (table_at seen.tables.now p) ≡ has_prefix f.plan p
  pub live : AreAllLive seen.pool.now seen.tables.now
  pub plan : seen.plan.now ≡ (world_of f).plan

-- the tables are the stable ones of the line's rounds where the ASes have the policies of the book, and the watch has the rows of the last (Gao and Rexford 2001; RFC 7908, section 3)
pub record AreTablesIn (f : Fixed) (book : PolicyBook Kind) (t : LineTables) : Type 0 where
  pub line : AreLineRounds f t.rounds
  pub stable : AreRounds (λ p. setting kind_policy f.graph.now book (state_of f.states.payloads p)) f.plan f.round (kept t.rounds)
  pub addr : addr_of t.watch ≡ f.addr
  pub rows : AreLineRows f (kept t.rounds f.round) (rows_of t.watch)

-- each AS of the list had the policy beside it, and all others have the policy that they had
pub record HadKinds (old new : PolicyBook Kind) (before : List (ℕ × Kind)) : Type 0 where
  pub had : All (λ c. c.1 ≡ policy_at old c.0) before
  pub others : (a : ℕ) → occurs a (map (λ c. c.0) before) ≡ false → policy_at new a ≡ policy_at old a

-- the tables are those of a book in which the ASes of the list had the policies beside them, and all others those of this one
abbrev pub AreTablesBefore : Fixed → PolicyBook Kind → List (ℕ × Kind) → LineTables → Type 0
AreTablesBefore f book before t = (old : PolicyBook Kind) × HadKinds old book before × AreTablesIn f old t

-- the new tables are those of each book of which the old ones were
abbrev pub StayTables : Fixed → LineTables → LineTables → Type 0
StayTables f old new = (book : PolicyBook Kind) → AreTablesIn f book old → AreTablesIn f book new

-- an AS with the policy that it had is touched, and so are its neighbours where that of the book begins or ceases to mark (RFC 9234, section 5)
pub record IsTouchedAround (g : Topology) (book : PolicyBook Kind) (was : ℕ × Kind) (touched : ℕ → Bool) : Type 0 where
  pub own : touched was.0 ≡ true
  pub neighbours : (n : ℕ) (r : Rel) → (kind_policy was.1).marks ≢ (kind_policy (policy_at book was.0)).marks → relation g was.0 n ≡ Some r → touched n ≡ true

-- so it is with each AS of the list, for each prefix of the plan
abbrev pub AreTouched : Topology → Plan → PolicyBook Kind → List (ℕ × Kind) → Touched → Type 0
AreTouched g plan book before t = (p : PrefixValue) → IsTrue (has_prefix plan p) → All (λ c. IsTouchedAround g book c (touches t p)) before

-- the rows are right but for the ASes of the list: all others hold what they held when the rows were right
pub record AreRowsBut (f : Fixed) (now : PrefixValue → ℕ → Option Entry) (changed : List ℕ) (rows : List Row) : Type 0 where
  pub held : PrefixValue → ℕ → Option Entry
  pub right : AreLineRows f held rows
  pub same : (a : ℕ) → occurs a changed ≡ false → (p : PrefixValue) → now p a ≡ held p a
