use Rattle.std.proofs.Common.{◌∙◌, ℕ, ap, sym, subst}
use Rattle.std.proofs.lemmas.Result.{err_from_is_err_and}
use Rattle.as_graph.specs.Hierarchy.{IsRank}
use Rattle.as_graph.specs.Topology.{Topology, relation, unmarked}
use Rattle.rank_order.specs.Ranks.{rank_at}
use Rattle.sim_core.specs.Loaded.{names_in, world_of}
use Rattle.sim_core.specs.Marking.{marked}
use Rattle.sim_core.proofs.Loads.{marked_links}
use Rattle.sim_core.proofs.loading.load_base.Goals as goal

pub base_of-requires : goal.base_of-requires
base_of-requires c =
    let is = c.in_ok-graph.ensures.graph in
    is ∙ ap (λ l. marked (unmarked l) (names_in c.args.scenario.now)) (sym (marked_links c.args.links.now c.args.scenario.now c.in_ok-graph.graph is))

pub returns-clause-world : goal.returns-clause-world
returns-clause-world c =
    c.in_ok-base.ensures.world ∙ ap (λ l. world_of l c.args.vrps c.args.scenario.now) (marked_links c.args.links.now c.args.scenario.now c.in_ok-graph.graph c.in_ok-graph.ensures.graph)

pub returns-in_err-graph-clause-refused : goal.returns-in_err-graph-clause-refused
returns-in_err-graph-clause-refused c =
    let p = err_from_is_err_and c.from_residual.result c.from_residual.ensures.1 in
    rw (p.1, p.2) (c.in_err-graph.ensures.refused c.args.vrps)

pub returns-clause-ranks : goal.returns-clause-ranks
returns-clause-ranks c =
    subst (λ (g : Topology). (a : ℕ) → IsRank (relation g) a (rank_at c.in_ok-graph.ranks a)) (sym c.in_ok-base.ensures.graph) c.in_ok-graph.ensures.ranks

pub returns-in_err-base-clause-refused : goal.returns-in_err-base-clause-refused
returns-in_err-base-clause-refused c =
    let p = err_from_is_err_and c.from_residual-in_err-base.result c.from_residual-in_err-base.ensures.1 in
    rw (p.1, p.2) tt
