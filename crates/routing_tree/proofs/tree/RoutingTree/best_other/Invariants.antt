use Rattle.std.proofs.Common.{[], take}
use Rattle.routing_tree.specs.Links.{list_at}
use Rattle.routing_tree.proofs.Choices.{IsBest, LooksDown}
use Rattle.routing_tree.proofs.tree.RoutingTree.best_other.Given as goal

abbrev pub invariant-loop-peer : goal.invariant-loop-peer
invariant-loop-peer g l = IsBest (g.P.RoutePolicy.meaning l.own) l.placed.ases.now l.self (LooksDown l.self (take l.peer-index l.peer-items) []) l.best

abbrev pub invariant-loop-provider : goal.invariant-loop-provider
invariant-loop-provider g l = IsBest (g.P.RoutePolicy.meaning l.own) l.placed.ases.now l.self (LooksDown l.self (list_at l.placed.links.now.peers l.fn.at) (take l.provider-index l.provider-items)) l.best
