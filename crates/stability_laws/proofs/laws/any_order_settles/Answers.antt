use Rattle.std.proofs.Common.{◌≡◌, ℕ, ◌<◌, ◌≤◌, true, length, arith}
use Rattle.as_graph.specs.Topology.{Topology, relation, ases, has}
use Rattle.as_graph.specs.Hierarchy.{IsRank}
use Rattle.as_graph.proofs.Links.{relation_mutual, relation_self, topology-AreLinks}
use Rattle.as_graph.proofs.Ranks.{rank_of, rank_of-IsRank, ranks_fall}
use Rattle.stability_laws.specs.Book.{policy_at}
use Rattle.stability_laws.specs.World.{setting}
use Rattle.stability_laws.specs.Laws.{IsHeight}
use Rattle.stability_laws.proofs.Activations.{activated}
use Rattle.stability_laws.proofs.laws.any_order_settles.Goals as goal

below : (w : Topology) (height rank a : ℕ) → IsHeight w height → IsRank (relation w) a rank → has w a ≡ true → rank < height
below w height rank a is r here =
    let (xs, chain, l) = r.longest in
    let most : length xs ≤ height = is.most a xs here chain in
    omega arith

pub returns : goal.returns
returns t c = λ w book state seeds height xs f h no_cycle is_height only p outside run.
    let links = topology-AreLinks w in
    let rank = λ (a : ℕ). rank_of (relation w) (ases w) links no_cycle a in
    let is = rank_of-IsRank (relation w) (ases w) links no_cycle in
    activated (setting t.P.RoutePolicy.meaning w book state)
    (λ b. let p = policy_at book b in record { ranks_offers = t.met.P.RoutePolicy.ranks_offers p; prefers_customers = t.met.P.RoutePolicy.prefers_customers p; exports_down_only = t.met.P.RoutePolicy.exports_down_only p })
    (relation_mutual w) (relation_self w) seeds rank (ranks_fall (relation w) (ases w) links no_cycle rank is).falls height (λ a here. below w height (rank a) a is_height (is a) here) xs f h only p run outside
