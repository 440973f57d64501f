-- The offers to an AS that is about to receive a message.
use Rattle.std.specs.Prelude.{ℕ, Option, option_copied}
use Rattle.net_names.specs.Prefixes.{PrefixValue}
use Rattle.net_names.specs.declared.routes.State.{State}
use Rattle.policy_laws.specs.Policy.{Policy}
use Rattle.stability_laws.specs.Offers.{Offer, Setting}
use Rattle.stability_laws.specs.World.{setting}
use Rattle.message_sim.specs.Best.{offers_after, offers_now}
use Rattle.message_sim.specs.declared.arrival.Arrival.{Arrival}
use Rattle.message_sim.specs.declared.ground.Ground.{Ground}

-- what stability reads of the world of a net
abbrev pub ground_setting : {P V : Type 0} → (P → Policy) → (V → PrefixValue → ℕ → State) → Ground P V → Setting
ground_setting meaning state_of x = setting meaning x.graph.now x.book.now (state_of x.states.now x.prefix)

-- the same of an arrival in it
abbrev pub setting_of : {P V : Type 0} → (P → Policy) → (V → PrefixValue → ℕ → State) → Arrival P V → Setting
setting_of meaning state_of x = ground_setting meaning state_of x.ground.now

-- the offers that the receiver has before it receives the message
abbrev pub offers_before : {P V : Type 0} → (P → Policy) → (V → PrefixValue → ℕ → State) → Arrival P V → ℕ → Option Offer
offers_before meaning state_of x = offers_now (setting_of meaning state_of x) x.lines.now.entries x.to

-- the offers that it has once it has received the message
abbrev pub offers_upon : {P V : Type 0} → (P → Policy) → (V → PrefixValue → ℕ → State) → Arrival P V → ℕ → Option Offer
offers_upon meaning state_of x =
    offers_after (setting_of meaning state_of x) x.lines.now.entries x.to x.from (option_copied x.message)
