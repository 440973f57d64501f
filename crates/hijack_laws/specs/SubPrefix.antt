-- A hijack of an address by a longer prefix, and more ASes that drop invalid routes.
use Rattle.std.specs.Prelude.{◌≡◌, ◌≢◌, ◌⊎◌, ℕ, suc, ◌<◌, ◌≤◌, Bool, true, false, IsTrue, Some, List, length, filter}
use Rattle.net_names.specs.declared.routes.State.{State}
use Rattle.net_names.specs.declared.routes.State.TheVariants.{Invalid}
use Rattle.net_names.specs.Addresses.{AddrValue}
use Rattle.net_names.specs.Coverage.{holds}
use Rattle.net_names.specs.Numbers.{occurs, last_or}
use Rattle.net_names.specs.Prefixes.{PrefixValue}
use Rattle.policy_kinds.specs.declared.kind.Kind.{Kind}
use Rattle.policy_kinds.specs.Kinds.{kind_policy}
use Rattle.as_graph.specs.Topology.{Topology, relation, has}
use Rattle.as_graph.specs.Hierarchy.{HasNoProviderCycle}
use Rattle.stability_laws.specs.Book.{PolicyBook, policy_at}
use Rattle.stability_laws.specs.World.{setting}
use Rattle.stability_laws.specs.Plans.{Plan, IsSound, announced_path, announces, has_prefix, leaks_in}
use Rattle.stability_laws.specs.Rounds.{Family, seeds_of}
use Rattle.stability_laws.specs.Offers.{Setting}
use Rattle.stability_laws.specs.Stable.{IsStable}
use Rattle.data_trace.specs.Hops.{next_hop}
use Rattle.data_trace.specs.Traces.{IsTrace}
use Rattle.data_trace.specs.declared.kinds.End.{End}
use Rattle.data_trace.specs.declared.kinds.End.TheVariants as the_end
use Rattle.routing_laws.specs.KindLaws.{undropping}
use Rattle.routing_laws.specs.InvalidReach.{HasMoreDroppers}

-- all that is announced of the prefix is invalid: each announcer is one of the ASes, its path has an invalid origin,
-- and each AS that the path names announces the prefix too, so that nobody else takes it for a loop (RFC 6811, section
-- 2)
pub record IsAllInvalid (has : ℕ → Bool) (state : ℕ → State) (plan : Plan) (q : PrefixValue) : Type 0 where
  pub there : (a : ℕ) (path : List ℕ) → announced_path plan q a ≡ Some path → has a ≡ true
  pub invalid : (a : ℕ) (path : List ℕ) → announced_path plan q a ≡ Some path → state (last_or 0 path) ≡ Invalid
  pub named : (a : ℕ) (path : List ℕ) → announced_path plan q a ≡ Some path → (x : ℕ) → IsTrue (occurs x path) → has x ≡ true → IsTrue (announces plan q x)

-- q hijacks the address as a longer prefix: it is a prefix of the plan that holds the address, and all that is
-- announced of it is invalid; each other prefix of the plan that holds the address is shorter, and nothing that is
-- announced of it is invalid (RFC 4632, section 5.1; RFC 6811, section 2)
pub record IsSubPrefixHijack (has : ℕ → Bool) (state : PrefixValue → ℕ → State) (plan : Plan) (addr : AddrValue) (q : PrefixValue) : Type 0 where
  pub known : IsTrue (has_prefix plan q)
  pub holds_it : IsTrue (holds q addr)
  pub all_invalid : IsAllInvalid has (state q) plan q
  pub others : (p : PrefixValue) → IsTrue (has_prefix plan p) → IsTrue (holds p addr) →
      (p ≡ q) ⊎ ((p.len < q.len) × ((a : ℕ) (path : List ℕ) → announced_path plan p a ≡ Some path → state p (last_or 0 path) ≢ Invalid))

-- a packet that ends so is delivered at an AS that announces the prefix (own rule)
abbrev pub is_hijacked : Plan → PrefixValue → End → Bool
is_hijacked plan q (the_end.At c) = announces plan q c
is_hijacked plan q the_end.NoRoute = false
is_hijacked plan q the_end.Loop = false

-- the two books differ only in which ASes drop invalid routes, and those that do by the first do by the second
-- (RFC 6811, section 3)
pub record OnlyAddsDroppers (book more : PolicyBook Kind) : Type 0 where
  pub else_same : (a : ℕ) → undropping (policy_at book a) ≡ undropping (policy_at more a)
  pub added : HasMoreDroppers book more

-- each round's routing of each prefix of the plan that holds the address is stable for the seeds of that round, as
-- `AreRounds` says it of all prefixes (Gao and Rexford 2001; RFC 7908, section 3)
abbrev pub AreRoundsFor : AddrValue → (PrefixValue → Setting) → Plan → ℕ → Family → Type 0
AreRoundsFor addr w plan rounds g = (r : ℕ) (p : PrefixValue) → r < rounds → IsTrue (has_prefix plan p) → IsTrue (holds p addr) →
    IsStable (w p) (seeds_of plan (suc r) p (g r p)) (g (suc r) p)

-- g and h are the rounds of one world and plan by two books of which the second only adds droppers, and in the round
-- nobody leaks (own rule)
pub record AreComparedIn (w : Topology) (book more : PolicyBook Kind) (state : PrefixValue → ℕ → State) (plan : Plan) (before : ℕ) (g h : Family) (addr : AddrValue) : Type 0 where
  pub no_cycle : HasNoProviderCycle (relation w)
  pub sound : IsSound plan
  pub droppers : OnlyAddsDroppers book more
  pub fewer : AreRoundsFor addr (λ prefix. setting kind_policy w book (state prefix)) plan (suc before) g
  pub more_drop : AreRoundsFor addr (λ prefix. setting kind_policy w more (state prefix)) plan (suc before) h
  pub quiet : (b : ℕ) → leaks_in plan (suc before) b ≡ false

-- an AS whose packets come to a hijacker where more ASes drop invalid routes is one whose packets do where fewer drop
-- them (RFC 6811, section 3; RFC 4632, section 5.1)
abbrev pub SubPrefixAdoptionHelps : Type 0
SubPrefixAdoptionHelps =
    (w : Topology) (book more : PolicyBook Kind) (state : PrefixValue → ℕ → State) (plan : Plan) (before : ℕ) (g h : Family) (addr : AddrValue) (q : PrefixValue) →
    AreComparedIn w book more state plan before g h addr → IsSubPrefixHijack (has w) state plan addr q →
    (a : ℕ) (walk other : List ℕ) (e d : End) →
    IsTrace (next_hop plan (g (suc before)) addr) a walk e → IsTrace (next_hop plan (h (suc before)) addr) a other d →
    IsTrue (is_hijacked plan q d) → IsTrue (is_hijacked plan q e)

-- so of any ASes, with the ends of their packets by the one book and by the other, no more are hijacked where more
-- ASes drop invalid routes (RFC 6811, section 3; RFC 4632, section 5.1)
abbrev pub SubPrefixCountsFall : Type 0
SubPrefixCountsFall =
    (w : Topology) (book more : PolicyBook Kind) (state : PrefixValue → ℕ → State) (plan : Plan) (before : ℕ) (g h : Family) (addr : AddrValue) (q : PrefixValue) →
    AreComparedIn w book more state plan before g h addr → IsSubPrefixHijack (has w) state plan addr q →
    (ases : List ℕ) (fewer more_drop : ℕ → End) →
    ((a : ℕ) → IsTrue (occurs a ases) → (walk : List ℕ) × IsTrace (next_hop plan (g (suc before)) addr) a walk (fewer a)) →
    ((a : ℕ) → IsTrue (occurs a ases) → (walk : List ℕ) × IsTrace (next_hop plan (h (suc before)) addr) a walk (more_drop a)) →
    length (filter (λ a. is_hijacked plan q (more_drop a)) ases) ≤ length (filter (λ a. is_hijacked plan q (fewer a)) ases)
