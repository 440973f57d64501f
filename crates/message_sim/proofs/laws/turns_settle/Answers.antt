use Rattle.message_sim.proofs.Ending.{turns_settle}
use Rattle.message_sim.proofs.laws.turns_settle.Goals as goal

pub returns : goal.returns
returns t c = λ g book state seeds height made turns x y no_cycle is_height only start run enough.
    turns_settle t.P.RoutePolicy.meaning (λ p. record { ranks_offers = t.met.P.RoutePolicy.ranks_offers p; prefers_customers = t.met.P.RoutePolicy.prefers_customers p; exports_down_only = t.met.P.RoutePolicy.exports_down_only p })
    g book state seeds height no_cycle is_height made turns x y only start run enough
