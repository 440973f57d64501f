use Rattle.std.proofs.Common.{◌++◌, length, subst}
use Rattle.as_graph.specs.Topology.{ases}
use Rattle.route_choice.proofs.Room.{seeds_kept}
use Rattle.dirty_recompute.specs.Named.{HasAll}
use Rattle.dirty_recompute.specs.PlannedRanks.{rank_of}
use Rattle.dirty_recompute.proofs.Going.{can_turn, kept_more, seeds_same}
use Rattle.dirty_recompute.proofs.Loops.{no_ranks}
use Rattle.dirty_recompute.proofs.NoLoopLemmas.{up_has_no_loops}
use Rattle.dirty_recompute.proofs.Ways.{turns_left, upward_start, upward_next, fresh, unchanged, few_turns_up, half_gone}
use Rattle.dirty_recompute.proofs.plan.go_up.Goals as goal

pub loop-asn-init : goal.loop-asn-init
loop-asn-init g c =
    let rank = rank_of c.args.world.now.ranks in
    record {
      way = upward_start g.P.RoutePolicy.meaning g.V.OriginStates.state_of c.laws_hold.ensures c.args.world.now c.args.touched.now c.args.pool.now c.args.overlay.now c.in_ok-up.up c.new-whole.result c.args.steps.now
          c.requires.fresh c.in_ok-up.ensures.touched (λ b. c.new-whole.ensures.none rank (rank b, b)) c.in_ok-up.ensures.ranks (no_ranks rank c.new-whole.result (c.new-whole.ensures.none rank) c.new-whole.ensures.spots) c.requires.right;
      named = c.requires.can.named;
    }

pub may_have-may_loop-requires-clause-live : goal.may_have-may_loop-requires-clause-live
may_have-may_loop-requires-clause-live g c = seeds_kept c.args.pool.now c.loop-asn.pool c.args.world.now.at.seeds.now c.loop-asn.invariant.way.kept.keeps c.requires.can.can.1.seeds_live

pub turn-requires-clause-can : goal.turn-requires-clause-can
turn-requires-clause-can g c =
    can_turn c.args.world.now.at.graph.now c.args.world.now.at.seeds.now c.args.world.now.at.table.now c.args.pool.now c.loop-asn.pool c.args.overlay.now c.loop-asn.overlay c.requires.can.few c.requires.can.can c.loop-asn.invariant.way.can

pub turn-requires-clause-ready : goal.turn-requires-clause-ready
turn-requires-clause-ready g c =
    unchanged c.loop-asn.overlay c.in-Some.asn
    (fresh g.P.RoutePolicy.meaning g.V.OriginStates.state_of c.laws_hold.ensures c.args.world.now c.args.touched.now c.loop-asn.pool c.loop-asn.overlay c.loop-asn.queues.up c.loop-asn.queues.whole c.pop.new.self c.loop-asn.invariant.way.turns c.in-Some.asn
    c.loop-asn.invariant.way.work (c.in-Some.ensures.taken (rank_of c.args.world.now.ranks) c.loop-asn.invariant.way.work.ranks).taken)

pub turn-requires-clause-no_loops : goal.turn-requires-clause-no_loops
turn-requires-clause-no_loops g c = λ out.
    let way = c.loop-asn.invariant.way in
    up_has_no_loops g.P.RoutePolicy.meaning g.V.OriginStates.state_of c.laws_hold.ensures c.args.world.now c.args.touched.now c.loop-asn.pool c.loop-asn.overlay c.in-Some.asn c.loop-asn.queues.up c.loop-asn.queues.whole way.turns way.work
    (c.in-Some.ensures.taken (rank_of c.args.world.now.ranks) way.work.ranks).next (c.may_have-may_loop.ensures.out out)

pub loop-asn-preserved : goal.loop-asn-preserved
loop-asn-preserved g c =
    let rank = rank_of c.args.world.now.ranks in
    let (first, could) = c.requires.can.can in
    let out = c.in-Some.ensures.taken rank c.loop-asn.invariant.way.work.ranks in
    record {
      way = upward_next g.P.RoutePolicy.meaning g.V.OriginStates.state_of c.laws_hold.ensures c.args.world.now c.args.touched.now c.args.pool.now c.loop-asn.pool c.turn.new.pool c.args.overlay.now c.loop-asn.overlay c.turn.new.overlay c.args.steps.now c.loop-asn.steps c.turn.new.steps c.in-Some.asn
          first could c.loop-asn.queues.up c.pop.new.self c.turn.new.queues.up c.loop-asn.queues.whole c.turn.new.queues.whole
          c.loop-asn.invariant.way out.taken out.next c.in_ok-turn.ensures.turn c.in_ok-turn.ensures.paid c.in_ok-turn.ensures.kept c.in_ok-turn.ensures.cost;
      named = subst (HasAll c.may_have-may_loop.new.self) (seeds_same c.loop-asn.pool c.turn.new.pool c.args.world.now.at.seeds.now c.in_ok-turn.ensures.kept.keeps) c.may_have-may_loop.ensures.all;
    }

pub loop-asn-smaller : goal.loop-asn-smaller
loop-asn-smaller g c =
    let was = (loop-asn-preserved g c).way in
    turns_left c.args.steps.now c.loop-asn.steps c.turn.new.steps was.turns (length (c.args.touched.now ++ ases c.args.world.now.at.graph.now)) was.count c.in_ok-turn.ensures.cost
    (few_turns_up g.P.RoutePolicy.meaning g.V.OriginStates.state_of c.laws_hold.ensures c.args.world.now c.args.touched.now c.args.pool.now c.turn.new.pool c.args.overlay.now c.turn.new.overlay c.turn.new.queues.up c.turn.new.queues.whole c.args.steps.now c.turn.new.steps was)

pub returns-in_err-turn-clause-kept : goal.returns-in_err-turn-clause-kept
returns-in_err-turn-clause-kept g c =
    kept_more c.args.pool.now c.loop-asn.pool c.turn.new.pool c.args.world.now.at.seeds.now c.args.overlay.now c.loop-asn.overlay c.turn.new.overlay c.loop-asn.invariant.way.kept c.in_err-turn.ensures.kept

pub returns-clause-done : goal.returns-clause-done
returns-clause-done g c =
    let was = c.loop-asn.invariant.way in
    (was.turns, was.count, half_gone g.P.RoutePolicy.meaning g.V.OriginStates.state_of c.laws_hold.ensures c.args.world.now c.args.touched.now c.loop-asn.pool c.loop-asn.overlay c.loop-asn.queues.up c.loop-asn.queues.whole was.turns (c.in_default.ensures.none (rank_of c.args.world.now.ranks)) was.work)
