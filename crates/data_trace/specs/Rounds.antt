-- What holds of the tables of stable rounds.
use Rattle.std.specs.Prelude.{◌≡◌, ℕ, suc, ◌<◌, false, IsTrue, Option, None}
use Rattle.net_names.specs.declared.routes.State.{State}
use Rattle.net_names.specs.Prefixes.{PrefixValue}
use Rattle.policy_laws.specs.Policy.{Policy}
use Rattle.as_graph.specs.Topology.{Topology}
use Rattle.stability_laws.specs.declared.entry.Entry.{Entry}
use Rattle.stability_laws.specs.Book.{PolicyBook}
use Rattle.stability_laws.specs.World.{setting}
use Rattle.stability_laws.specs.Plans.{Plan, IsSound, has_prefix}
use Rattle.stability_laws.specs.Rounds.{AreRounds}
use Rattle.data_trace.specs.Watches.{StaysInside}

-- what the ASes hold in a round: of the prefixes of the plan the stable routings, and nothing of others
pub record IsHeldInRound (plan : Plan) (g : PrefixValue → ℕ → Option Entry) (held : PrefixValue → ℕ → Option Entry) : Type 0 where
  pub stable : (prefix : PrefixValue) → IsTrue (has_prefix plan prefix) → (a : ℕ) → held prefix a ≡ g prefix a
  pub others : (prefix : PrefixValue) → has_prefix plan prefix ≡ false → (a : ℕ) → held prefix a ≡ None

-- in each round of a plan, an AS that does not announce a prefix sends its packets to an AS of the graph
abbrev pub RoundsStayInside : {P : Type 0} → (P → Policy) → Type 0
RoundsStayInside {P} meaning =
    (w : Topology) (book : PolicyBook P) (state : PrefixValue → ℕ → State) (plan : Plan) (rounds : ℕ) (g : ℕ → PrefixValue → ℕ → Option Entry) →
    IsSound plan → AreRounds (λ prefix. setting meaning w book (state prefix)) plan rounds g → (before : ℕ) → before < rounds →
    (held : PrefixValue → ℕ → Option Entry) → IsHeldInRound plan (g (suc before)) held → StaysInside w plan held
