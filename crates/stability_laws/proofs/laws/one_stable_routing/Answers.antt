use Rattle.as_graph.specs.Topology.{ases}
use Rattle.as_graph.proofs.Links.{topology-AreLinks}
use Rattle.stability_laws.specs.Book.{policy_at}
use Rattle.stability_laws.specs.World.{setting}
use Rattle.stability_laws.proofs.OneRouting.{one_routing}
use Rattle.stability_laws.proofs.laws.one_stable_routing.Goals as goal

pub returns : goal.returns
returns t c = λ w book state seeds f h no_cycle f_stable h_stable.
    one_routing (setting t.P.RoutePolicy.meaning w book state)
    (λ b. let p = policy_at book b in record { ranks_offers = t.met.P.RoutePolicy.ranks_offers p; prefers_customers = t.met.P.RoutePolicy.prefers_customers p; exports_down_only = t.met.P.RoutePolicy.exports_down_only p })
    (ases w) (topology-AreLinks w) no_cycle seeds f h f_stable h_stable
