use Rattle.route_choice.specs.Routings.{table_routing}
use Rattle.leak_round.proofs.Moves.{AreMoved}
use Rattle.leak_round.proofs.moving.move_entries.Given as goal

abbrev pub invariant-loop-one : goal.invariant-loop-one
invariant-loop-one l = AreMoved (table_routing l.from l.table) l.holders l.fn.pool l.pool l.made l.one-index
