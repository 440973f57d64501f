use Rattle.std.proofs.Common.{sym, subst}
use Rattle.as_graph.specs.Hierarchy.{IsRank}
use Rattle.as_graph.specs.Topology.{relation}
use Rattle.sim_core.proofs.changing.plan_ranks.Goals as goal

pub returns-then-difference-clause-plan : goal.returns-then-difference-clause-plan
returns-then-difference-clause-plan c = c.none.ensures.last c.args.ranks.now

pub returns-then-difference-clause-ranks : goal.returns-then-difference-clause-ranks
returns-then-difference-clause-ranks c = λ a. subst (IsRank (relation c.args.graph.now) a) (sym (c.none.ensures.same c.args.ranks.now a)) (c.requires.stay c.if-difference.true a)
