use Rattle.std.proofs.Common.{◌≡◌, length}
use Rattle.routing_tree.specs.Puts.{AreSown}
use Rattle.routing_tree.specs.Trees.{HasPlaces}
use Rattle.routing_tree.proofs.tree.RoutingTree.plant.Given as goal

abbrev pub invariant-loop-seed : goal.invariant-loop-seed
invariant-loop-seed l = record {
  same : length l.self.lengths.items ≡ length l.initial.self.lengths.items;
  places : HasPlaces (length l.self.lengths.items) l.self;
  sown : AreSown l.seeds l.seed-index l.self;
}
