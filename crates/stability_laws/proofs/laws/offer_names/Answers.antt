use Rattle.as_graph.specs.Topology.{relation}
use Rattle.stability_laws.specs.Book.{policy_at}
use Rattle.stability_laws.proofs.Local.{given_by}
use Rattle.stability_laws.proofs.laws.offer_names.Goals as goal

pub returns : goal.returns
returns t c = λ w book state f n a o made.
    let m = t.P.RoutePolicy.meaning in
    given_by (m (policy_at book n)) (m (policy_at book a)) state n a (relation w a n) (f n) o made
