use Rattle.std.proofs.Common.{◌≡◌, ℕ, false, true≢false, Option, None, Some, sym, ◌∙◌, ap}
use Rattle.net_names.specs.declared.routes.Rel.{Rel}
use Rattle.as_graph.specs.Topology.{relation, ases}
use Rattle.net_names.specs.Numbers.{occurs}
use Rattle.as_graph.proofs.Links.{topology-AreLinks}
use Rattle.stability_laws.specs.Book.{policy_at}
use Rattle.stability_laws.specs.World.{setting}
use Rattle.stability_laws.specs.Offers.{offer, offer_given}
use Rattle.stability_laws.proofs.Local.{one_right, given_by}
use Rattle.stability_laws.proofs.Answer.{some_right}
use Rattle.stability_laws.proofs.laws.one_answer.Goals as goal

pub returns : goal.returns
returns t c = λ w book state seeds f a.
    let here = setting t.P.RoutePolicy.meaning w book state in
    let ranks = t.met.P.RoutePolicy.ranks_offers (policy_at book a) in
    let given = λ (n : ℕ). given_by (here.policy n) (here.policy a) state n a (relation w a n) (f n) in
    let none = λ (n : ℕ) (out : occurs n (ases w) ≡ false). (let go : (r : Option Rel) → relation w a n ≡ r → offer here f n a ≡ None = elim [
      | None ↦ λ e. ap (λ r. offer_given (here.policy n) (here.policy a) state n a r (f n)) e
      | Some r ↦ λ e. absurd (true≢false (sym ((topology-AreLinks w).ends a n r e) ∙ out))
    ] in go (relation w a n) (λ i. relation w a n)) in
    let (held, right) = some_right (here.policy a) ranks (λ n. offer here f n a) (λ n o e. (given n o e).neighbour) (ases w) none (seeds a) in
    (held, right, λ other right'. one_right (here.policy a) ranks (seeds a) (λ n. offer here f n a) other held right' right)
