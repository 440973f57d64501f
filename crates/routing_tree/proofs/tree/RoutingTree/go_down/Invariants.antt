use Rattle.std.proofs.Common.{◌+◌, ◌-◌, ◌≤◌, length}
use Rattle.routing_tree.specs.Cases.{Case, IsCaseOf, IsDownTo}
use Rattle.routing_tree.specs.Chosen.{AreStatesOf}
use Rattle.routing_tree.specs.Puts.{AreAtMost}
use Rattle.routing_tree.specs.Trees.{HasPlaces}
use Rattle.routing_tree.proofs.tree.RoutingTree.go_down.Given as goal

abbrev pub invariant-loop-left : goal.invariant-loop-left
invariant-loop-left g l = record {
  inside : l.left ≤ length l.placed.ases.now;
  places : HasPlaces (length l.placed.ases.now) l.self;
  most : AreAtMost (length l.placed.ases.now + 1 + (length l.placed.ases.now - l.left)) l.self;
  states : AreStatesOf l.all l.self;
  down : (c : Case) → IsCaseOf g.P.RoutePolicy.meaning c l.placed → IsDownTo c l.placed.ases.now (length l.placed.ases.now) l.initial.self → IsDownTo c l.placed.ases.now l.left l.self;
}

abbrev pub decreases-loop-left : goal.decreases-loop-left
decreases-loop-left g l = l.left
