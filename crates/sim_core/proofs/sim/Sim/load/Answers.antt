use Rattle.std.proofs.Common.{◌≤◌, sym, ap, subst, ◌∙◌}
use Rattle.std.proofs.lemmas.Result.{err_from_is_err_and}
use Rattle.as_graph.specs.Topology.{as_count}
use Rattle.sim_core.specs.World.{HasCycle, World, topology}
use Rattle.sim_core.proofs.Doing.{counted_right}
use Rattle.sim_core.proofs.sim.Sim.load.Goals as goal

pub invariant_of-result : goal.invariant_of-result
invariant_of-result c = record { counted = counted_right c.in_ok-parts.parts c.in_ok-parts.ensures.right }

pub returns-clause-world : goal.returns-clause-world
returns-clause-world c = c.in_ok-parts.ensures.world ∙ c.in_ok-base.ensures.world

pub returns-clause-kept : goal.returns-clause-kept
returns-clause-kept c = c.in_ok-parts.ensures.right.is_kept

pub returns-clause-no_cycle : goal.returns-clause-no_cycle
returns-clause-no_cycle c = λ cycle. (let of_base = subst HasCycle c.in_ok-parts.ensures.world cycle in c.in_ok-base.ensures.no_cycle of_base.0 of_base.1)

pub returns-clause-few : goal.returns-clause-few
returns-clause-few c =
    subst (λ n. n ≤ 150000) (ap as_count c.in_ok-base.base.named ∙ ap (λ (w : World). as_count (topology w)) (sym c.in_ok-parts.ensures.world)) c.in_ok-base.ensures.few

pub returns-in_err-base-clause-refused : goal.returns-in_err-base-clause-refused
returns-in_err-base-clause-refused c =
    let p = err_from_is_err_and c.from_residual.result c.from_residual.ensures.1 in
    rw (p.1, p.2) c.in_err-base.ensures.refused

pub returns-in_err-parts-clause-refused : goal.returns-in_err-parts-clause-refused
returns-in_err-parts-clause-refused c =
    let p = err_from_is_err_and c.from_residual-in_err-parts.result c.from_residual-in_err-parts.ensures.1 in
    rw (p.1, p.2) tt
