use Rattle.std.proofs.Common.{refl}
use Rattle.route_choice.specs.PrefixWorlds.{setting_at}
use Rattle.dirty_recompute.specs.PlannedRanks.{rank_of}
use Rattle.dirty_recompute.proofs.TurnLemmas.{turned_up, turned_down}
use Rattle.dirty_recompute.proofs.turns.turn.Goals as goal

pub returns-in_ok-queue_around-in-Up-clause-turn : goal.returns-in_ok-queue_around-in-Up-clause-turn
returns-in_ok-queue_around-in-Up-clause-turn g c =
    let x = c.in_ok-stepped.ensures in
    turned_up (setting_at g.P.RoutePolicy.meaning g.V.OriginStates.state_of c.args.world.now.at) c.args.world.now.at.graph.now refl (rank_of c.args.world.now.ranks) c.args.turn.now.asn c.args.pool.now c.step.new.pool c.args.world.now.at.seeds.now c.args.world.now.at.table.now c.args.overlay.now c.step.new.overlay c.in_ok-stepped.stepped c.args.turn.now.part
    c.step.ensures.kept.keeps x.chosen x.only x.changed x.unchanged x.before c.args.queues.now c.queue_around.new.queues c.queue_itself.new.queue c.in-Up.is c.in_ok-queue_itself-in-Up.ensures c.in_ok-queue_around-in-Up.ensures.up c.in_ok-queue_around-in-Up.ensures.whole

pub returns-in_ok-queue_customers-in-Whole-clause-turn : goal.returns-in_ok-queue_customers-in-Whole-clause-turn
returns-in_ok-queue_customers-in-Whole-clause-turn g c =
    let x = c.in_ok-stepped.ensures in
    turned_down (setting_at g.P.RoutePolicy.meaning g.V.OriginStates.state_of c.args.world.now.at) c.args.world.now.at.graph.now refl (rank_of c.args.world.now.ranks) c.args.turn.now.asn c.args.pool.now c.step.new.pool c.args.world.now.at.seeds.now c.args.world.now.at.table.now c.args.overlay.now c.step.new.overlay c.in_ok-stepped.stepped c.args.turn.now.part
    c.step.ensures.kept.keeps x.chosen x.only x.changed x.unchanged x.before c.args.queues.now (record { up = c.args.queues.now.up; whole = c.queue_customers.new.whole }) c.in-Whole.is c.in_ok-queue_customers-in-Whole.ensures
