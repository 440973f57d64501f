-- Where packets come without leaks.
use Rattle.std.specs.Prelude.{◌≡◌, ◌≢◌, ◌↔◌, ℕ, suc, ◌<◌, false, List}
use Rattle.net_names.specs.Addresses.{AddrValue}
use Rattle.net_names.specs.Prefixes.{PrefixValue}
use Rattle.net_names.specs.declared.routes.State.{State}
use Rattle.policy_laws.specs.Policy.{Policy}
use Rattle.as_graph.specs.Topology.{Topology}
use Rattle.stability_laws.specs.Book.{PolicyBook}
use Rattle.stability_laws.specs.World.{setting}
use Rattle.stability_laws.specs.Plans.{Plan, IsSound, leaks_in}
use Rattle.stability_laws.specs.Rounds.{AreRounds, Family}
use Rattle.data_trace.specs.Hops.{CanSendBy, next_hop}
use Rattle.data_trace.specs.Traces.{IsTrace}
use Rattle.data_trace.specs.declared.kinds.End.{End}
use Rattle.data_trace.specs.declared.kinds.End.TheVariants as the_end

-- in a round in which nobody leaks no trace ends in a loop, and one ends without a route exactly where its first AS has
-- no entry of a prefix of the plan that holds the address (RFC 4271, section 9.1.2, on AS loops; RFC 4632, section 5.1)
abbrev pub PacketsArrive : {P : Type 0} → (P → Policy) → Type 0
PacketsArrive {P} meaning =
    (w : Topology) (book : PolicyBook P) (state : PrefixValue → ℕ → State) (plan : Plan) (rounds : ℕ) (g : Family) (before : ℕ) (addr : AddrValue) (a : ℕ) (walk : List ℕ) (e : End) →
    IsSound plan → AreRounds (λ prefix. setting meaning w book (state prefix)) plan rounds g → before < rounds → ((b : ℕ) → leaks_in plan (suc before) b ≡ false) →
    IsTrace (next_hop plan (g (suc before)) addr) a walk e →
    (e ≢ the_end.Loop) × (e ≡ the_end.NoRoute ↔ ((p : PrefixValue) → CanSendBy plan (g (suc before)) addr a p → ⊥))
