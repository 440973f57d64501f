use Rattle.std.proofs.lemmas.Result.{err_from_is_err_and}
use Rattle.sim_core.proofs.Loads.{cyclic_world, unmarked_world}
use Rattle.sim_core.proofs.loading.graph_and_ranks.Goals as goal

pub returns-in_err-graph-clause-refused : goal.returns-in_err-graph-clause-refused
returns-in_err-graph-clause-refused c =
    let p = err_from_is_err_and c.from_residual.result c.from_residual.ensures.1 in
    rw (p.1, p.2) (λ vrps. unmarked_world c.args.links.now vrps c.args.scenario.now c.in_err-graph.field-0.0 c.in_err-graph.ensures)

pub returns-in_err-ranks-clause-refused : goal.returns-in_err-ranks-clause-refused
returns-in_err-ranks-clause-refused c =
    let p = err_from_is_err_and c.from_residual-in_err-ranks.result c.from_residual-in_err-ranks.ensures.1 in
    rw (p.1, p.2) (λ vrps. cyclic_world c.args.links.now vrps c.args.scenario.now c.in_ok-graph.graph c.in_err-ranks.field-0.0 c.in_ok-graph.ensures.0 c.in_ok-graph.ensures.1 c.in_err-ranks.ensures.refused)
