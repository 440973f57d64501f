use Rattle.std.proofs.Common.{◌+◌, Option, length}
use Rattle.net_names.specs.declared.routes.State.{State}
use Rattle.routing_tree.specs.Cases.{Case, IsCaseOf, IsUpTo}
use Rattle.routing_tree.specs.Chosen.{AreStatesOf}
use Rattle.routing_tree.specs.Puts.{AreAtMost}
use Rattle.routing_tree.specs.Trees.{HasPlaces}
use Rattle.routing_tree.proofs.tree.RoutingTree.go_up.Given as goal

abbrev pub invariant-loop-at : goal.invariant-loop-at
invariant-loop-at g l = record {
  places : HasPlaces (length l.placed.ases.now) l.self;
  most : AreAtMost (l.at + 1) l.self;
  states : (all : Option State) → AreStatesOf all l.initial.self → AreStatesOf all l.self;
  up : (c : Case) → IsCaseOf g.P.RoutePolicy.meaning c l.placed → IsUpTo c l.placed.ases.now 0 l.initial.self → IsUpTo c l.placed.ases.now l.at l.self;
}
