use Rattle.as_graph.specs.Topology.{ases}
use Rattle.as_graph.proofs.Links.{topology-AreLinks}
use Rattle.stability_laws.specs.Book.{policy_at}
use Rattle.stability_laws.specs.World.{setting}
use Rattle.stability_laws.proofs.OneFamily.{one_family as same_family}
use Rattle.stability_laws.proofs.laws.one_family.Goals as goal

pub returns : goal.returns
returns t c = λ w book state plan rounds x y no_cycle x_is y_is before prefix within there.
    same_family (λ q. setting t.P.RoutePolicy.meaning w book (state q))
    (λ q a. let p = policy_at book a in record { ranks_offers = t.met.P.RoutePolicy.ranks_offers p; prefers_customers = t.met.P.RoutePolicy.prefers_customers p; exports_down_only = t.met.P.RoutePolicy.exports_down_only p })
    (ases w) (λ q. topology-AreLinks w) (λ q. no_cycle) plan rounds x y x_is y_is before prefix within there
