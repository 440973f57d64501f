use Rattle.std.proofs.Common.{◌≤◌, subst}
use Rattle.std.proofs.lemmas.Result.{err_from_is_err_and}
use Rattle.as_graph.specs.Hierarchy.{IsRank}
use Rattle.as_graph.specs.Topology.{Topology, as_count, relation}
use Rattle.rank_order.specs.Ranks.{rank_at}
use Rattle.sim_core.proofs.base.Base.load_ranked.Goals as goal

pub returns-clause-no_cycle : goal.returns-clause-no_cycle
returns-clause-no_cycle c = λ cycle. c.in_ok-base.ensures.no_cycle cycle.0 cycle.1

pub returns-clause-few : goal.returns-clause-few
returns-clause-few c = subst (λ (g : Topology). as_count g ≤ 150000) c.in_ok-base.base.named c.in_ok-base.ensures.few

pub returns-clause-ranks : goal.returns-clause-ranks
returns-clause-ranks c = λ a. subst (λ (g : Topology). IsRank (relation g) a (rank_at c.in_ok-base.ranks a)) c.in_ok-base.base.named (c.in_ok-base.ensures.ranks a)

pub returns-in_err-base-clause-refused : goal.returns-in_err-base-clause-refused
returns-in_err-base-clause-refused c =
    let p = err_from_is_err_and c.from_residual.result c.from_residual.ensures.1 in
    rw (p.1, p.2) c.in_err-base.ensures.refused
