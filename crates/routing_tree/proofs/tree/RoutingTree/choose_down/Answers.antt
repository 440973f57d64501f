use Rattle.std.proofs.Common.{option_map, refl}
use Rattle.routing_tree.specs.Chosen.{best_at}
use Rattle.routing_tree.proofs.Taken.{place_again}
use Rattle.routing_tree.proofs.tree.RoutingTree.choose_down.Goals as goal

pub returns-in-Plain : goal.returns-in-Plain
returns-in-Plain g c =
    let at = best_at c.args.placed.now.ases.now c.args.self.now in (
      option_map at c.shortest_provider.result,
      c.shortest_provider.ensures (g.P.RoutePolicy.meaning c.args.own.now) c.args.all c.in-Plain.ensures c.requires.states c.requires.can.apart (c.has_low_peer.ensures c.if-not-has_low_peer.true),
      place_again at (λ j. refl) c.shortest_provider.result,
    )
