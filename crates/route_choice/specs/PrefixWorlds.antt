-- The world at one prefix.
use Rattle.std.specs.Prelude.{◌≡◌, ℕ, Bool, false, List, Option}
use Rattle.net_names.specs.declared.routes.State.{State}
use Rattle.net_names.specs.Prefixes.{PrefixValue as Prefix}
use Rattle.as_graph.specs.declared.neighbour.Neighbour.{Neighbour}
use Rattle.as_graph.specs.Topology.{relation}
use Rattle.policy_laws.specs.Policy.{Policy}
use Rattle.path_pool.specs.declared.pool.PathPool.{PathPool}
use Rattle.stability_laws.specs.declared.entry.Entry.{Entry}
use Rattle.stability_laws.specs.Book.{policy_at}
use Rattle.stability_laws.specs.Offers.{Setting}
use Rattle.stability_laws.specs.World.{setting}
use Rattle.route_choice.specs.declared.choice.Choice.{Choice}
use Rattle.route_choice.specs.declared.choice.Part.{Part}
use Rattle.route_choice.specs.declared.overlay.Overlay.{Overlay}
use Rattle.route_choice.specs.declared.prefix_world.PrefixWorld.{PrefixWorld}
use Rattle.route_choice.specs.declared.turn.Turn.{Turn}
use Rattle.route_choice.specs.Choices.{named_by}
use Rattle.route_choice.specs.Givers.{AreGivers}
use Rattle.route_choice.specs.Loops.{HasLoopsFrom, HasNoLoops}
use Rattle.route_choice.specs.Resources.{CanStep}
use Rattle.route_choice.specs.Routings.{routing_of, seeds_of}
use Rattle.route_choice.specs.Tables.{prefix_of}

-- What steps read of a world that is lent: its links, what its policies mean, and the states of the prefix of its table.
abbrev pub setting_at : {P V : Type 0} → (P → Policy) → (V → Prefix → ℕ → State) → PrefixWorld P V → Setting
setting_at meaning state_of w = setting meaning w.graph.now w.book.now (state_of w.states.now (prefix_of w.table.now))

-- In the world with the changes in place: the entry that a choice names,
abbrev pub named_at : {P V : Type 0} → (P → Policy) → PrefixWorld P V → PathPool → Overlay → ℕ → Choice → Option Entry
named_at meaning w pool overlay a choice = named_by (λ n. meaning (policy_at w.book.now n)) (seeds_of pool w.seeds.now a) (routing_of pool w.table.now overlay) a choice

-- that the list has the neighbours that may make an AS an offer of the part,
abbrev pub AreGiversAt : {P V : Type 0} → (P → Policy) → PrefixWorld P V → PathPool → Overlay → Part → ℕ → List Neighbour → Type 0
AreGiversAt meaning w pool overlay part a xs = AreGivers part (relation w.graph.now) (λ n. meaning (policy_at w.book.now n)) (routing_of pool w.table.now overlay) a xs

-- that no entry that a neighbour of the part exports to an AS has a path through the AS,
abbrev pub HasNoLoopsAt : {P V : Type 0} → (P → Policy) → PrefixWorld P V → PathPool → Overlay → Part → ℕ → Type 0
HasNoLoopsAt meaning w pool overlay part a = HasNoLoops part (relation w.graph.now) (λ n. meaning (policy_at w.book.now n)) (routing_of pool w.table.now overlay) a

-- that each one with such a path has an origin that passes the test,
abbrev pub HasLoopsFromAt : {P V : Type 0} → (P → Policy) → PrefixWorld P V → PathPool → Overlay → Part → ℕ → (ℕ → Bool) → Type 0
HasLoopsFromAt meaning w pool overlay part a test = HasLoopsFrom part (relation w.graph.now) (λ n. meaning (policy_at w.book.now n)) (routing_of pool w.table.now overlay) a test

-- that there is no such path at the AS and the part of a turn, where the turn says so,
abbrev pub HasNoLoopsIn : {P V : Type 0} → (P → Policy) → PrefixWorld P V → PathPool → Overlay → Turn → Type 0
HasNoLoopsIn meaning w pool overlay turn = turn.may_loop ≡ false → HasNoLoopsAt meaning w pool overlay turn.part turn.asn

-- and that n more steps can be made.
abbrev pub CanStepAt : {P V : Type 0} → PrefixWorld P V → PathPool → Overlay → ℕ → Type 0
CanStepAt w pool overlay n = CanStep pool w.seeds.now w.table.now overlay n
