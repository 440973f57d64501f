use Rattle.std.proofs.Common.{ℕ, ◌<◌}
use Rattle.stability_laws.specs.World.{setting}
use Rattle.table_check.specs.Checked.{IsInOrder}
use Rattle.table_check.proofs.check.check_tables.Given as goal

abbrev pub invariant-loop-before : goal.invariant-loop-before
invariant-loop-before g l =
    (k a : ℕ) → k < l.before → IsInOrder (setting g.P.RoutePolicy.meaning l.world.graph.now l.world.book.now (g.V.OriginStates.state_of l.world.states.now l.tables.prefix)) l.plan l.tables k a
