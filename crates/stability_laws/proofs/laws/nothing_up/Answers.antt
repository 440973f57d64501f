use Rattle.std.proofs.Common.{◌≡◌, option_map, ◌∙◌, ap}
use Rattle.net_names.specs.declared.routes.Rel.{Rel}
use Rattle.net_names.specs.declared.routes.Rel.TheVariants.{Customer, Peer, Provider}
use Rattle.net_names.specs.Links.{converse}
use Rattle.as_graph.proofs.Links.{relation_mutual}
use Rattle.stability_laws.specs.Book.{policy_at}
use Rattle.stability_laws.specs.World.{setting}
use Rattle.stability_laws.proofs.LocalLaws.{no_offer_up}
use Rattle.stability_laws.proofs.laws.nothing_up.Goals as goal

turned : (r : Rel) → converse r ≡ Provider → r ≡ Customer
turned Customer e = λ i. Customer
turned Peer e = cc
turned Provider e = cc

pub returns : goal.returns
returns t c = λ w book state f n a r linked up h.
    no_offer_up (setting t.P.RoutePolicy.meaning w book state)
    (λ b. let p = policy_at book b in record { ranks_offers = t.met.P.RoutePolicy.ranks_offers p; prefers_customers = t.met.P.RoutePolicy.prefers_customers p; exports_down_only = t.met.P.RoutePolicy.exports_down_only p })
    f n a (converse r) (relation_mutual w n a ∙ ap (option_map converse) linked) (λ e. up (turned r e)) h
