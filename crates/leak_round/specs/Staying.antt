-- When what an AS holds is right still after one of its links was edited.
use Rattle.std.specs.Prelude.{◌≡◌, ◌≢◌, ◌⊎◌, ℕ, suc, ◌<◌, true, IsTrue, Option, Some, slice_get}
use Rattle.net_names.specs.declared.routes.State.{State}
use Rattle.net_names.specs.Prefixes.{PrefixValue}
use Rattle.policy_laws.specs.Policy.{Policy}
use Rattle.as_graph.specs.Topology.{Topology, has, relation}
use Rattle.path_pool.specs.declared.pool.PathPool.{PathPool}
use Rattle.stability_laws.specs.declared.entry.Entry.{Entry}
use Rattle.stability_laws.specs.declared.entry.Seed.{Seed}
use Rattle.stability_laws.specs.declared.world.World.{World}
use Rattle.stability_laws.specs.Offers.{Setting, Offer, offer}
use Rattle.stability_laws.specs.Stable.{IsRight}
use Rattle.stability_laws.specs.World.{setting}
use Rattle.route_choice.specs.declared.prefix_world.PrefixWorld.{PrefixWorld}
use Rattle.route_choice.specs.Routings.{table_routing}
use Rattle.route_choice.specs.Tables.{prefix_of}
use Rattle.leak_round.specs.declared.rounds.Rounds.{Rounds}
use Rattle.leak_round.specs.declared.touched.Touched.{Touched}
use Rattle.leak_round.specs.Rounds.{kept, round_count}
use Rattle.leak_round.specs.Touched.{touches}

-- `from` is another AS than the end of the edited link, and where both make an AS an offer, its policy puts that of `from` first (RFC 4271, section 9.1.2)
pub record IsAhead (w : Setting) (f : ℕ → Option Entry) (a end from : ℕ) : Type 0 where
  pub other : from ≢ end
  pub before : (o x : Offer) → offer w f from a ≡ Some o → offer w f end a ≡ Some x → IsTrue ((w.policy a).before o.view x.view)

-- in a routing whose paths start with their ASes, an AS that is right on a topology on which it has the same links, except perhaps that with `end`, is right on this topology
abbrev pub StaysRight : (Topology → Setting) → Topology → (ℕ → Option Entry) → ℕ → ℕ → Type 0
StaysRight on here f a end =
    (v : Topology) (seeds : ℕ → Option Seed) →
    ((n : ℕ) → n ≢ end → relation v a n ≡ relation here a n) →
    ((n : ℕ) (e : Entry) → f n ≡ Some e → slice_get e.path 0 ≡ Some n) →
    IsRight (on v) seeds f a →
    IsRight (on here) seeds f a

-- the AS stays right with what the table of a lent prefix has
abbrev pub StaysRightAt : {P V : Type 0} → (P → Policy) → (V → PrefixValue → ℕ → State) → PrefixWorld P V → PathPool → ℕ → ℕ → Type 0
StaysRightAt meaning state_of at pool a end = StaysRight (λ v. setting meaning v at.book.now (state_of at.states.now (prefix_of at.table.now))) at.graph.now (table_routing pool at.table.now) a end

-- the AS stays right in a lent world, with what a routing of the prefix has
abbrev pub StaysRightIn : {P V : Type 0} → (P → Policy) → (V → PrefixValue → ℕ → State) → World P V → PrefixValue → (ℕ → Option Entry) → ℕ → ℕ → Type 0
StaysRightIn meaning state_of w prefix f a end = StaysRight (λ v. setting meaning v w.book.now (state_of w.states.now prefix)) w.graph.now f a end

-- the AS stays right in each round
abbrev pub StaysRightInRounds : {P V : Type 0} → (P → Policy) → (V → PrefixValue → ℕ → State) → World P V → Rounds → PrefixValue → ℕ → ℕ → Type 0
StaysRightInRounds meaning state_of w rounds prefix a end =
    (before : ℕ) → before < round_count rounds → StaysRightIn meaning state_of w prefix (kept rounds (suc before) prefix) a end

-- the AS is touched for the prefix, or it is in the graph and stays right in each round
abbrev pub IsSettled : {P V : Type 0} → (P → Policy) → (V → PrefixValue → ℕ → State) → World P V → Rounds → Touched → PrefixValue → ℕ → ℕ → Type 0
IsSettled meaning state_of w rounds t prefix a end =
    (touches t prefix a ≡ true) ⊎ ((has w.graph.now a ≡ true) × StaysRightInRounds meaning state_of w rounds prefix a end)
