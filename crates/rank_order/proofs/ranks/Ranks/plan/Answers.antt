use Rattle.std.proofs.Common.{rules, ◌≡◌, length, subst, arith}
use Rattle.as_graph.specs.Topology.{relation}
use Rattle.as_graph.specs.Hierarchy.{IsRank}
use Rattle.rank_order.proofs.Planned.{last_plan, rank_same}
use Rattle.rank_order.proofs.ranks.Ranks.plan.Goals as goal

pub returns-clause-plan : goal.returns-clause-plan
returns-clause-plan c =
    let len : c.len.result ≡ length c.in_ok-plan.plan.ases.items = search rules in
    last_plan c.make_room.new.self c.in_ok-plan.plan (omega (arith, len, c.in_ok-make_room.ensures.room))

pub returns-clause-ranks : goal.returns-clause-ranks
returns-clause-ranks c = λ a.
    subst (IsRank (relation c.args.graph.now) a) (rank_same c.args.self.now c.make_room.new.self c.in_ok-plan.plan a c.in_ok-make_room.ensures.same) (c.in_ok-plan.ensures.fitting a)
