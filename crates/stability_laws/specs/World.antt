-- The world at one prefix.
use Rattle.std.specs.Prelude.{ℕ}
use Rattle.net_names.specs.declared.routes.State.{State}
use Rattle.policy_laws.specs.Policy.{Policy}
use Rattle.as_graph.specs.Topology.{Topology, relation, has}
use Rattle.stability_laws.specs.Book.{PolicyBook, policy_at}
use Rattle.net_names.specs.Prefixes.{PrefixValue}
use Rattle.stability_laws.specs.Offers.{Setting}
use Rattle.stability_laws.specs.declared.world.World.{World}

-- what stability reads of a graph, a book of policies whose meanings are known, and the states of the prefix
abbrev pub setting : {P : Type 0} → (P → Policy) → Topology → PolicyBook P → (ℕ → State) → Setting
setting meaning g book state = record { has = has g; relation = relation g; policy = λ a. meaning (policy_at book a); state = state }

-- the same of a world that is lent, at a prefix
abbrev pub setting_in : {P V : Type 0} → (P → Policy) → (V → PrefixValue → ℕ → State) → World P V → PrefixValue → Setting
setting_in meaning state_of w prefix = setting meaning w.graph.now w.book.now (state_of w.states.now prefix)
