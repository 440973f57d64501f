use Rattle.stability_laws.specs.Book.{policy_at}
use Rattle.stability_laws.specs.World.{setting}
use Rattle.stability_laws.proofs.LocalLaws.{customers_decide as both_ways}
use Rattle.stability_laws.proofs.laws.customers_decide.Goals as goal

pub returns : goal.returns
returns t c = λ w book state f a customer o made held.
    both_ways (setting t.P.RoutePolicy.meaning w book state)
    (λ b. let p = policy_at book b in record { ranks_offers = t.met.P.RoutePolicy.ranks_offers p; prefers_customers = t.met.P.RoutePolicy.prefers_customers p; exports_down_only = t.met.P.RoutePolicy.exports_down_only p })
    f a customer o made held
