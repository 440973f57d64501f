use Rattle.std.proofs.Common.{ℕ, ◌⊎◌}
use Rattle.std.specs.FinMap as map
use Rattle.as_graph.specs.Following.{IsAbove}
use Rattle.stability_laws.specs.World.{setting}
use Rattle.table_check.specs.Walk.{IsFine}
use Rattle.table_check.proofs.Walking.{left}
use Rattle.table_check.proofs.lowest.lowest_wrong.Given as goal

abbrev pub invariant-named : goal.invariant-named
invariant-named g l = (b : ℕ) → IsAbove l.after b ⊎ IsFine (setting g.P.RoutePolicy.meaning l.world.graph.now l.world.book.now (g.V.OriginStates.state_of l.world.states.now l.prefix)) (map.get l.seeds) (map.get l.routing) b

abbrev pub decreases-named : goal.decreases-named
decreases-named g l = left l.after
