use Rattle.std.proofs.Common.{inl, inr, length, subst, take_all, ◌∙◌}
use Rattle.routing_tree.specs.Chosen.{LooksDownAt}
use Rattle.routing_tree.specs.Links.{list_at}
use Rattle.routing_tree.proofs.Choices.{IsBest, LooksDown, best_chosen, inside, inside_at, no_peer_yet, peer_weighed, peers_done, provider_weighed}
use Rattle.routing_tree.proofs.tree.RoutingTree.best_other.Goals as goal

pub loop-peer-init : goal.loop-peer-init
loop-peer-init g c = no_peer_yet (g.P.RoutePolicy.meaning c.args.own.now) c.args.placed.now.ases.now c.args.self.now c.list-peer-items.result.now

pub weigh_peer-best-requires-clause-inside : goal.weigh_peer-best-requires-clause-inside
weigh_peer-best-requires-clause-inside g c = inside_at (length c.args.placed.now.ases.now) c.args.placed.now.links.now.peers c.args.at c.list-peer-items.result.now c.loop-peer.peer-index c.requires.lists.peers c.list-peer-items.ensures c.loop-peer-test.true

pub loop-peer-preserved : goal.loop-peer-preserved
loop-peer-preserved g c =
    peer_weighed (g.P.RoutePolicy.meaning c.args.own.now) c.args.placed.now.ases.now c.args.self.now (g.met.P.RoutePolicy.ranks_offers c.args.own.now) c.list-peer-items.result.now c.loop-peer.peer-index c.loop-peer-test.true
    c.loop-peer.best c.weigh_peer-best.result c.weigh_peer-best.ensures.low c.weigh_peer-best.ensures.other c.loop-peer.invariant

pub loop-provider-init : goal.loop-provider-init
loop-provider-init g c =
    peers_done (g.P.RoutePolicy.meaning c.args.own.now) c.args.placed.now.ases.now c.args.self.now c.list-peer-items.result.now (list_at c.args.placed.now.links.now.peers c.args.at) c.list-provider-items.result.now c.loop-peer.peer-index c.loop-peer.best c.list-peer-items.ensures c.loop-peer-test.false c.loop-peer.invariant

pub weigh-best-requires-clause-inside : goal.weigh-best-requires-clause-inside
weigh-best-requires-clause-inside g c = inside_at (length c.args.placed.now.ases.now) c.args.placed.now.links.now.providers c.args.at c.list-provider-items.result.now c.loop-provider.provider-index c.requires.lists.providers c.list-provider-items.ensures c.loop-provider-test.true

pub loop-provider-preserved : goal.loop-provider-preserved
loop-provider-preserved g c =
    provider_weighed (g.P.RoutePolicy.meaning c.args.own.now) c.args.placed.now.ases.now c.args.self.now (g.met.P.RoutePolicy.ranks_offers c.args.own.now) c.list-provider-items.result.now c.loop-provider.provider-index c.loop-provider-test.true
    (list_at c.args.placed.now.links.now.peers c.args.at) c.loop-provider.best c.weigh-best.result c.weigh-best.ensures c.loop-provider.invariant

pub returns : goal.returns
returns g c = λ distinct.
    let p = g.P.RoutePolicy.meaning c.args.own.now in
    let ases = c.args.placed.now.ases.now in
    let links = c.args.placed.now.links.now in
    let t = c.args.self.now in
    best_chosen p ases t (g.met.P.RoutePolicy.ranks_offers c.args.own.now) (LooksDownAt t links c.args.at)
    (λ r j l. elim l [
      | inl f ↦ inside (length ases) links.peers c.args.at c.requires.lists.peers j f.1
      | inr f ↦ inside (length ases) links.providers c.args.at c.requires.lists.providers j f.1
    ]) c.loop-provider.best
    (subst (λ xs. IsBest p ases t (LooksDown t (list_at links.peers c.args.at) xs) c.loop-provider.best) (take_all c.loop-provider.provider-index c.list-provider-items.result.now c.loop-provider-test.false ∙ c.list-provider-items.ensures) c.loop-provider.invariant) distinct
