use Rattle.std.proofs.Common.{◌<◌, length, take}
use Rattle.routing_tree.proofs.Choices.{IsShortestSoFar}
use Rattle.routing_tree.proofs.tree.RoutingTree.shortest_provider.Given as goal

abbrev pub invariant-loop-provider : goal.invariant-loop-provider
invariant-loop-provider g l = record {
  inside : l.shortest.place < length l.placed.ases.now;
  shortest : IsShortestSoFar l.placed.ases.now l.self (take l.provider-index l.provider-items) l.shortest;
}
