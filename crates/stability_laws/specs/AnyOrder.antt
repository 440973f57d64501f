-- Activations in any order.
use Rattle.std.specs.Prelude.{◌≡◌, ℕ, ◌+◌, false, Option, None, List}
use Rattle.net_names.specs.declared.routes.State.{State}
use Rattle.policy_laws.specs.Policy.{Policy}
use Rattle.as_graph.specs.Topology.{Topology, relation, has}
use Rattle.as_graph.specs.Hierarchy.{HasNoProviderCycle}
use Rattle.stability_laws.specs.declared.entry.Entry.{Entry}
use Rattle.stability_laws.specs.declared.entry.Seed.{Seed}
use Rattle.stability_laws.specs.Offers.{Setting}
use Rattle.stability_laws.specs.Stable.{IsStable}
use Rattle.stability_laws.specs.Steps.{IsStepWhole}
use Rattle.stability_laws.specs.Book.{PolicyBook}
use Rattle.stability_laws.specs.World.{setting}
use Rattle.stability_laws.specs.Runs.{IsRunBy, HasOnly, HasPieces}
use Rattle.stability_laws.specs.Laws.{IsHeight}

-- from f to g by the activations of the list (Gao and Rexford 2001)
abbrev pub IsActivated : Setting → (ℕ → Option Seed) → List ℕ → (ℕ → Option Entry) → (ℕ → Option Entry) → Type 0
IsActivated w seeds xs f g = IsRunBy (IsStepWhole w seeds) xs f g

-- from any routing, activations with twice as many full pieces as the longest chain has ASes end in
-- a stable routing, in a world without a provider cycle (Gao and Rexford 2001)
abbrev pub AnyOrderSettles : {P : Type 0} → (P → Policy) → Type 0
AnyOrderSettles {P} meaning =
    (w : Topology) (book : PolicyBook P) (state : ℕ → State) (seeds : ℕ → Option Seed) (height : ℕ) (xs : List ℕ) (f g : ℕ → Option Entry) →
    HasNoProviderCycle (relation w) → IsHeight w height → HasOnly (has w) xs → HasPieces (has w) (height + height) xs →
    ((a : ℕ) → has w a ≡ false → f a ≡ None) → IsActivated (setting meaning w book state) seeds xs f g → IsStable (setting meaning w book state) seeds g
