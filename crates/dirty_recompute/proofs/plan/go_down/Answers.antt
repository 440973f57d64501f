use Rattle.std.proofs.Common.{◌≡◌, ◌+◌, ◌++◌, length, arith, subst}
use Rattle.as_graph.specs.Topology.{relation, has, ases}
use Rattle.stability_laws.specs.World.{setting}
use Rattle.route_choice.specs.Tables.{prefix_of}
use Rattle.route_choice.proofs.Room.{seeds_kept}
use Rattle.dirty_recompute.specs.Named.{HasAll}
use Rattle.dirty_recompute.specs.PlannedRanks.{rank_of}
use Rattle.dirty_recompute.specs.Resources.{has_change}
use Rattle.dirty_recompute.proofs.Going.{can_turn, kept_more, seeds_same}
use Rattle.dirty_recompute.proofs.Loops.{enough_from}
use Rattle.dirty_recompute.proofs.NoLoopLemmas.{down_has_no_loops}
use Rattle.dirty_recompute.proofs.Ways.{turns_left, down_start, downward_next, settled, few_turns_down, all_gone}
use Rattle.dirty_recompute.proofs.plan.go_down.Goals as goal

pub loop-asn-init : goal.loop-asn-init
loop-asn-init g c =
    let state = g.V.OriginStates.state_of c.args.world.now.at.states.now (prefix_of c.args.world.now.at.table.now) in
    record {
      way = down_start (has c.args.world.now.at.graph.now) (setting g.P.RoutePolicy.meaning c.args.world.now.at.graph.now c.args.world.now.at.book.now state) (rank_of c.args.world.now.ranks) c.args.touched.now c.args.world.now.at.seeds.now c.args.world.now.at.table.now c.args.pool.now c.args.overlay.now c.args.queues.now.whole c.args.steps.now;
      named = c.requires.can.named;
    }

pub may_have-may_loop-requires-clause-live : goal.may_have-may_loop-requires-clause-live
may_have-may_loop-requires-clause-live g c = seeds_kept c.args.pool.now c.loop-asn.pool c.args.world.now.at.seeds.now c.loop-asn.invariant.way.kept.keeps c.requires.can.can.1.seeds_live

pub turn-requires-clause-can : goal.turn-requires-clause-can
turn-requires-clause-can g c =
    can_turn c.args.world.now.at.graph.now c.args.world.now.at.seeds.now c.args.world.now.at.table.now c.args.pool.now c.loop-asn.pool c.args.overlay.now c.loop-asn.overlay c.requires.can.few c.requires.can.can c.loop-asn.invariant.way.can

pub turn-requires-clause-ready : goal.turn-requires-clause-ready
turn-requires-clause-ready g c =
    let rank = rank_of c.args.world.now.ranks in
    let (first, could) = c.requires.can.can in
    let (n, began) = c.requires.work in
    let work = c.loop-asn.invariant.way.work n began in
    settled g.P.RoutePolicy.meaning g.V.OriginStates.state_of c.laws_hold.ensures c.args.world.now c.args.touched.now c.args.pool.now c.loop-asn.pool c.loop-asn.pool c.args.overlay.now c.loop-asn.overlay c.loop-asn.overlay c.args.steps.now c.loop-asn.steps c.loop-asn.steps c.in-Some.asn
    first could c.loop-asn.queues.whole c.pop.new.self n c.loop-asn.invariant.way.turns work (c.in-Some.ensures.taken rank work.ranks).taken

pub turn-requires-clause-no_loops : goal.turn-requires-clause-no_loops
turn-requires-clause-no_loops g c = λ out.
    let way = c.loop-asn.invariant.way in
    let (n, began) = c.requires.work in
    let work = way.work n began in
    down_has_no_loops g.P.RoutePolicy.meaning g.V.OriginStates.state_of c.laws_hold.ensures c.args.world.now c.args.touched.now c.loop-asn.pool c.loop-asn.overlay c.in-Some.asn c.loop-asn.queues.whole n way.turns work
    (c.in-Some.ensures.taken (rank_of c.args.world.now.ranks) work.ranks).next (c.may_have-may_loop.ensures.out out)

pub loop-asn-preserved : goal.loop-asn-preserved
loop-asn-preserved g c =
    let rank = rank_of c.args.world.now.ranks in
    let (first, could) = c.requires.can.can in
    let (n, began) = c.requires.work in
    let out = c.in-Some.ensures.taken rank (c.loop-asn.invariant.way.work n began).ranks in
    record {
      way = downward_next g.P.RoutePolicy.meaning g.V.OriginStates.state_of c.laws_hold.ensures c.args.world.now c.args.touched.now c.args.pool.now c.loop-asn.pool c.turn.new.pool c.args.overlay.now c.loop-asn.overlay c.turn.new.overlay c.args.steps.now c.loop-asn.steps c.turn.new.steps c.in-Some.asn
          first could c.args.queues.now.whole c.loop-asn.queues.whole c.pop.new.self c.turn.new.queues.whole n began
          c.loop-asn.invariant.way out.taken out.next c.in_ok-turn.ensures.turn c.in_ok-turn.ensures.paid c.in_ok-turn.ensures.kept c.in_ok-turn.ensures.cost;
      named = subst (HasAll c.may_have-may_loop.new.self) (seeds_same c.loop-asn.pool c.turn.new.pool c.args.world.now.at.seeds.now c.in_ok-turn.ensures.kept.keeps) c.may_have-may_loop.ensures.all;
    }

pub loop-asn-smaller : goal.loop-asn-smaller
loop-asn-smaller g c =
    let (n, began) = c.requires.work in
    let was = (loop-asn-preserved g c).way in
    turns_left c.args.steps.now c.loop-asn.steps c.turn.new.steps was.turns (length (c.args.touched.now ++ ases c.args.world.now.at.graph.now)) was.count c.in_ok-turn.ensures.cost
    (few_turns_down g.P.RoutePolicy.meaning g.V.OriginStates.state_of c.laws_hold.ensures c.args.world.now c.args.touched.now c.args.pool.now c.turn.new.pool c.args.overlay.now c.turn.new.overlay c.args.queues.now.whole c.turn.new.queues.whole c.args.steps.now c.turn.new.steps n was began)

pub returns-in_err-turn-clause-kept : goal.returns-in_err-turn-clause-kept
returns-in_err-turn-clause-kept g c =
    kept_more c.args.pool.now c.loop-asn.pool c.turn.new.pool c.args.world.now.at.seeds.now c.args.overlay.now c.loop-asn.overlay c.turn.new.overlay c.loop-asn.invariant.way.kept c.in_err-turn.ensures.kept

pub returns-clause-exact : goal.returns-clause-exact
returns-clause-exact g c =
    let (n, began) = c.requires.work in
    let was = c.loop-asn.invariant.way in
    (all_gone g.P.RoutePolicy.meaning g.V.OriginStates.state_of c.laws_hold.ensures c.args.world.now c.args.touched.now c.loop-asn.pool c.loop-asn.overlay c.loop-asn.queues.whole n was.turns (c.in_default.ensures.none (rank_of c.args.world.now.ranks)) (was.work n began)).0

pub returns-clause-enough : goal.returns-clause-enough
returns-clause-enough g c = λ first n is began.
    let was = c.loop-asn.invariant.way in
    let both = all_gone g.P.RoutePolicy.meaning g.V.OriginStates.state_of c.laws_hold.ensures c.args.world.now c.args.touched.now c.loop-asn.pool c.loop-asn.overlay c.loop-asn.queues.whole n was.turns (c.in_default.ensures.none (rank_of c.args.world.now.ranks)) (was.work n began) in
    let count : c.loop-asn.steps ≡ c.args.steps.now + was.turns = was.count in
    let began_at : c.args.steps.now ≡ first + n = is in
    let all : c.loop-asn.steps ≡ first + (n + was.turns) = omega (arith, count, began_at) in
    enough_from (relation c.args.world.now.at.graph.now) _ (has_change c.loop-asn.overlay) (n + was.turns) first c.loop-asn.steps all both.1
