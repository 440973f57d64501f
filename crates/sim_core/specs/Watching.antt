-- The watches of a simulation: for each round one for each watched address.
use Rattle.std.specs.Prelude.{◌≡◌, ◌≢◌, ◌↔◌, ℕ, ◌==◌, true, false, IsTrue, ◌<◌, suc, ◌-◌, if◌then◌else◌, Option, None, Some, option_and_then, List, [], ◌∷◌, length, map, slice_get}
use Rattle.std.specs.List.{AllPairs, position_or_len}
use Rattle.std.specs.FinSet as set
use Rattle.std.specs.Ordering.{eq_by_cmp}
use Rattle.as_graph.specs.Topology.{Topology, has, relation}
use Rattle.net_names.specs.Numbers.{occurs}
use Rattle.net_names.specs.Addresses.{AddrValue, addr_cmp}
use Rattle.net_names.specs.Prefixes.{PrefixValue}
use Rattle.policy_kinds.specs.Kinds.{label}
use Rattle.policy_kinds.specs.declared.kind.Kind.{Kind}
use Rattle.stability_laws.specs.Book.{PolicyBook, policy_at}
use Rattle.stability_laws.specs.Plans.{Plan, announces, has_prefix}
use Rattle.stability_laws.specs.declared.entry.Entry.{Entry}
use Rattle.data_trace.specs.Hops.{next_hop, second_of}
use Rattle.data_trace.specs.Indexes.{has_as}
use Rattle.data_trace.specs.Views.{addr_of, rows_of}
use Rattle.data_trace.specs.Watches.{AreRows, IsStub, Row}
use Rattle.data_trace.specs.declared.kinds.End.{End}
use Rattle.data_trace.specs.declared.kinds.End.TheVariants.{NoRoute}
use Rattle.data_trace.specs.declared.kinds.Hop.{Hop}
use Rattle.data_trace.specs.declared.index.WatchIndex.{WatchIndex}
use Rattle.data_trace.specs.declared.watch.Watch.{Watch}
use Rattle.sim_core.specs.declared.errors.QueryError.{QueryError}
use Rattle.sim_core.specs.declared.errors.QueryError.TheVariants as refused
use Rattle.sim_core.specs.declared.watching.RoundWatches.{RoundWatches}
use Rattle.sim_core.specs.World.{World, has_round, kind_at, topology}
use Rattle.sim_core.specs.Families.{Family}
use Rattle.sim_core.specs.Answers.{in_round, needs}
use Rattle.sim_core.specs.Kept.{Kept}

-- where an AS does not announce a prefix of the plan, the second AS of its entry's path is an AS of the graph
abbrev pub GoesOnInside : Topology → Plan → (PrefixValue → ℕ → Option Entry) → Type 0
GoesOnInside g plan held = (p : PrefixValue) (a b : ℕ) → IsTrue (has_prefix plan p) → announces plan p a ≡ false → second_of (held p a) ≡ Some b → has g b ≡ true

-- the same of an index in place of a graph
abbrev pub GoesOnAmong : WatchIndex → Plan → (PrefixValue → ℕ → Option Entry) → Type 0
GoesOnAmong index plan held = (p : PrefixValue) (a b : ℕ) → IsTrue (has_prefix plan p) → announces plan p a ≡ false → second_of (held p a) ≡ Some b → has_as index b ≡ true

-- what contracts see of a watch: its address and its rows
abbrev pub seen_of : Watch → AddrValue × List Row
seen_of w = (addr_of w, rows_of w)

-- the same of each watch of a round, in their order
abbrev pub seen_in : RoundWatches → List (AddrValue × List Row)
seen_in one = map seen_of one.watches.items

-- the addresses of the watches of a round, in their order
abbrev pub addrs_in : RoundWatches → List AddrValue
addrs_in one = map addr_of one.watches.items

-- the watches of a round have the row of each AS
abbrev pub AreWatches : Topology → Plan → (PrefixValue → ℕ → Option Entry) → PolicyBook Kind → List (AddrValue × List Row) → Type 0
AreWatches g plan held book seen = (place : ℕ) (s : AddrValue × List Row) → slice_get seen place ≡ Some s → AreRows g (next_hop plan held s.0) (λ a. label (policy_at book a)) s.1

-- so have those of each round, of which the first of the list is round 1
pub record AreRoundWatches (g : Topology) (plan : Plan) (held : ℕ → PrefixValue → ℕ → Option Entry) (book : PolicyBook Kind) (rounds : ℕ) (all : List (List (AddrValue × List Row))) : Type 0 where
  pub count : length all ≡ rounds
  pub each : (before : ℕ) (seen : List (AddrValue × List Row)) → slice_get all before ≡ Some seen → AreWatches g plan (held (suc before)) book seen

-- there are so many rounds, and in each the watches of these addresses, in their order
pub record HasWatches (rounds : ℕ) (addrs : List AddrValue) (all : List RoundWatches) : Type 0 where
  pub count : length all ≡ rounds
  pub each : (before : ℕ) (one : RoundWatches) → slice_get all before ≡ Some one → addrs_in one ≡ addrs

-- the place of an address in a list, or the list's length where it does not stand there
abbrev pub place_in : List AddrValue → AddrValue → ℕ
place_in addrs addr = position_or_len (eq_by_cmp addr_cmp addr) addrs

-- the place is that of an address that stands in the list
pub record IsPlace (addrs : List AddrValue) (addr : AddrValue) (place : ℕ) : Type 0 where
  pub watched : set.contains (set.from_list {R = addr_cmp} addrs) addr ≡ true
  pub is : place ≡ place_in addrs addr
  pub within : place_in addrs addr < length addrs

-- the place of an address, or none where it does not stand in the list
abbrev pub IsPlaceOrNone : List AddrValue → AddrValue → Option ℕ → Type 0
IsPlaceOrNone addrs addr None = set.contains (set.from_list {R = addr_cmp} addrs) addr ≡ false
IsPlaceOrNone addrs addr (Some place) = IsPlace addrs addr place

-- the watch of a round and an address, if there is one
abbrev pub watch_at : List RoundWatches → List AddrValue → ℕ → AddrValue → Option Watch
watch_at all addrs round addr = option_and_then (λ (one : RoundWatches). slice_get one.watches.items (place_in addrs addr)) (slice_get all (round - 1))

-- for each round and watched address the rows are those of all ASes of the world
abbrev pub AreWatchRows : World → Family → (ℕ → AddrValue → List Row) → Type 0
AreWatchRows w family rows =
    (round : ℕ) (addr : AddrValue) → IsTrue (has_round w round) → IsTrue (set.contains w.watched addr) → AreRows (topology w) (next_hop w.plan (family round) addr) (λ a. label (kind_at w a)) (rows round addr)

-- the rows are those of all ASes of the graph but for their ends: each has one, with its next hop, whether it is a stub, and its policy's group
pub record HasRows (g : Topology) (next : ℕ → Hop) (label_of : ℕ → ℕ) (rows : List Row) : Type 0 where
  pub listed : (a : ℕ) → occurs a (map (λ r. r.asn) rows) ≡ has g a
  pub apart : AllPairs (λ a b. a ≢ b) (map (λ r. r.asn) rows)
  pub hops : (place : ℕ) (r : Row) → slice_get rows place ≡ Some r → r.next ≡ next r.asn
  pub stubs : (place : ℕ) (r : Row) → slice_get rows place ≡ Some r → IsTrue r.stub ↔ IsStub (relation g) r.asn
  pub labels : (place : ℕ) (r : Row) → slice_get rows place ≡ Some r → r.label ≡ label_of r.asn

-- the end of the row of an AS, if it has one
abbrev pub end_at : List Row → ℕ → End
end_at [] a = NoRoute
end_at (r ∷ rows) a = if r.asn == a then r.end else end_at rows a

-- the rows of a watch, if there is one
abbrev pub rows_in : Option Watch → List Row
rows_in None = []
rows_in (Some watch) = rows_of watch

-- the watch is that of a round and an address that are there, and has the rows of all ASes with the ends that are kept
pub record IsWatchOf (w : World) (k : Kept) (round : ℕ) (addr : AddrValue) (watch : Watch) : Type 0 where
  pub round_there : has_round w round ≡ true
  pub watched : set.contains w.watched addr ≡ true
  pub rows : HasRows (topology w) (next_hop w.plan (k.routings round) addr) (λ a. label (kind_at w a)) (rows_of watch)
  pub ends : (a : ℕ) → k.ends round addr a ≡ end_at (rows_of watch) a

-- why there is no such watch: the round is not there, or the address is not watched
abbrev pub no_watch : World → ℕ → AddrValue → Option QueryError
no_watch w round addr = in_round w round (needs (set.contains w.watched addr) (refused.NotWatched addr) None)
