use Rattle.std.proofs.Common.{◌∙◌}
use Rattle.as_graph.specs.Topology.{relation}
use Rattle.stability_laws.specs.Book.{policy_at}
use Rattle.stability_laws.specs.Offers.{offer_given}
use Rattle.stability_laws.proofs.LocalLaws.{same_sender}
use Rattle.stability_laws.proofs.laws.offer_follows.Goals as goal

pub returns : goal.returns
returns t c = λ v w book other_book state f g n a linked exports marks policy entry.
    let m = t.P.RoutePolicy.meaning in
    same_sender (m (policy_at book n)) (m (policy_at other_book n)) (m (policy_at book a)) exports marks state n a (relation v a n) (f n)
    ∙ (λ i. offer_given (m (policy_at other_book n)) (policy i) state n a (linked i) (entry i))
