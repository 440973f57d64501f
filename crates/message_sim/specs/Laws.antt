-- What the laws of nets say.
use Rattle.std.specs.Prelude.{◌≡◌, ℕ, suc, ◌*◌, ◌^◌, ◌<◌, ◌≤◌, ◌⊎◌, false, not, Option, None, List, length, filter}
use Rattle.std.specs.Option.{is_some}
use Rattle.net_names.specs.declared.routes.State.{State}
use Rattle.policy_laws.specs.Policy.{Policy}
use Rattle.as_graph.specs.Topology.{Topology, relation, has, as_count}
use Rattle.as_graph.specs.Hierarchy.{HasNoProviderCycle}
use Rattle.stability_laws.specs.declared.entry.Entry.{Entry}
use Rattle.stability_laws.specs.declared.entry.Seed.{Seed}
use Rattle.stability_laws.specs.Offers.{Setting}
use Rattle.stability_laws.specs.Stable.{IsStable}
use Rattle.stability_laws.specs.Book.{PolicyBook}
use Rattle.stability_laws.specs.World.{setting}
use Rattle.stability_laws.specs.Laws.{IsHeight}
use Rattle.message_sim.specs.Messages.{MessageNet, IsStart, IsQuiet}
use Rattle.message_sim.specs.Delivery.{AreDeliveries, AreTrueDeliveries, CanDeliver, IsTurn, IsFair}
use Rattle.message_sim.specs.Agreement.{Agrees}
use Rattle.message_sim.specs.Nets.{AreLowestFirst}
use Rattle.message_sim.specs.Turns.{AreTurns}

-- a net that is quiet after any deliveries from the start holds a stable routing
abbrev pub QuietNetsAreStable : {P : Type 0} → (P → Policy) → Type 0
QuietNetsAreStable {P} meaning =
    (g : Topology) (book : PolicyBook P) (state : ℕ → State) (seeds : ℕ → Option Seed) (x y : MessageNet) (links : List (ℕ × ℕ)) →
    let w = setting meaning g book state in
    ((a : ℕ) → has g a ≡ false → seeds a ≡ None) → IsStart w seeds x → AreDeliveries w seeds links x y → IsQuiet y → IsStable w seeds y.choice

-- from a net that agrees with what its ASes send, and has at most k messages on each link, deliveries in any order take out at most k * n ^ (2 * h) messages, where the world has n ASes, its longest chain has h, and it has no provider cycle (Gao and Rexford 2001, safety)
abbrev pub DeliveriesEnd : {P : Type 0} → (P → Policy) → Type 0
DeliveriesEnd {P} meaning =
    (g : Topology) (book : PolicyBook P) (state : ℕ → State) (seeds : ℕ → Option Seed) (height k : ℕ) (x y : MessageNet) (links : List (ℕ × ℕ)) →
    let w = setting meaning g book state in
    HasNoProviderCycle (relation g) → IsHeight g height → Agrees w seeds x → ((n a : ℕ) → length (x.queue n a) ≤ k) →
    AreTrueDeliveries w seeds links x y → length links ≤ k * as_count g ^ (2 * height)

-- no message is under way, and the choices are the one stable routing
pub record IsSettled (w : Setting) (seeds : ℕ → Option Seed) (x : MessageNet) : Type 0 where
  pub quiet : IsQuiet x
  pub stable : IsStable w seeds x.choice
  pub the_one : (f : ℕ → Option Entry) → IsStable w seeds f → (a : ℕ) → f a ≡ x.choice a

-- in any order, deliveries from the start take out at most n ^ (2 * h) messages, where the world has n ASes, its longest chain has h, and it has no provider cycle; and as long as the net is not settled a message can be delivered (Gao and Rexford 2001, safety; Griffin, Shepherd and Wilfong 2002)
abbrev pub DeliveriesSettle : {P : Type 0} → (P → Policy) → Type 0
DeliveriesSettle {P} meaning =
    (g : Topology) (book : PolicyBook P) (state : ℕ → State) (seeds : ℕ → Option Seed) (height : ℕ) (x y : MessageNet) (links : List (ℕ × ℕ)) →
    let w = setting meaning g book state in
    HasNoProviderCycle (relation g) → IsHeight g height → ((a : ℕ) → has g a ≡ false → seeds a ≡ None) → IsStart w seeds x → AreTrueDeliveries w seeds links x y →
    (length links ≤ as_count g ^ (2 * height)) × (CanDeliver w seeds y ⊎ IsSettled w seeds y)

-- in every fair order a net comes from the start to be settled, and stays as it is then, in a world without a provider cycle (Gao and Rexford 2001)
abbrev pub FairOrdersSettle : {P : Type 0} → (P → Policy) → Type 0
FairOrdersSettle {P} meaning =
    (g : Topology) (book : PolicyBook P) (state : ℕ → State) (seeds : ℕ → Option Seed) (order : ℕ → ℕ × ℕ) (net : ℕ → MessageNet) →
    let w = setting meaning g book state in
    HasNoProviderCycle (relation g) → ((a : ℕ) → has g a ≡ false → seeds a ≡ None) → IsFair w order → IsStart w seeds (net 0) →
    ((k : ℕ) → IsTurn w seeds (net k) (order k).0 (order k).1 (net (suc k))) →
    (k : ℕ) × IsSettled w seeds (net k) × ((j : ℕ) → k ≤ j → net j ≡ net k)

-- up to so many deliveries from the start, each on the lowest link with a message, where they are n ^ (2 * h) or more, leave the net settled
abbrev pub RestSettles : {P : Type 0} → (P → Policy) → Type 0
RestSettles {P} meaning =
    (g : Topology) (book : PolicyBook P) (state : ℕ → State) (seeds : ℕ → Option Seed) (height made most : ℕ) (x y : MessageNet) →
    let w = setting meaning g book state in
    HasNoProviderCycle (relation g) → IsHeight g height → ((a : ℕ) → has g a ≡ false → seeds a ≡ None) → IsStart w seeds x →
    AreLowestFirst w seeds made x y → (made < most → IsQuiet y) → as_count g ^ (2 * height) ≤ most → IsSettled w seeds y

-- turns from the start leave the net settled, where at least n ^ (2 * h) of them name no link, or where no message is under way after them; the world has n ASes, its longest chain has h, and it has no provider cycle (Gao and Rexford 2001, safety)
abbrev pub TurnsSettle : {P : Type 0} → (P → Policy) → Type 0
TurnsSettle {P} meaning =
    (g : Topology) (book : PolicyBook P) (state : ℕ → State) (seeds : ℕ → Option Seed) (height made : ℕ) (turns : List (Option (ℕ × ℕ))) (x y : MessageNet) →
    let w = setting meaning g book state in
    HasNoProviderCycle (relation g) → IsHeight g height → ((a : ℕ) → has g a ≡ false → seeds a ≡ None) → IsStart w seeds x → AreTurns w seeds turns x made y →
    (as_count g ^ (2 * height) ≤ length (filter (λ t. not (is_some t)) turns)) ⊎ IsQuiet y → IsSettled w seeds y

-- each world without a provider cycle has a height
abbrev pub WorldsHaveHeights : Type 0
WorldsHaveHeights = (g : Topology) → HasNoProviderCycle (relation g) → (height : ℕ) × IsHeight g height
