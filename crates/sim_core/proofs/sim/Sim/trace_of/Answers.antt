use Rattle.std.proofs.Common.{◌∙◌, ap}
use Rattle.path_pool.specs.declared.pool.PathPool.{PathPool}
use Rattle.route_choice.specs.RoundTables.{round_routing}
use Rattle.sim_core.specs.Sims.{kept}
use Rattle.sim_core.proofs.Hops.{same_trace}
use Rattle.sim_core.proofs.sim.Sim.trace_of.Goals as goal

pub returns : goal.returns
returns c =
    same_trace (λ t. t.walk) (λ t. t.end) c.trace.result c.seed_plan-plan.result.now _ (round_routing c.pool-pool.result.now c.args.tables.now) ((kept c.args.self.now).routings c.args._round) c.args.addr c.args.asn
    c.seed_plan-plan.ensures (λ p b. ap (λ (pool : PathPool). round_routing pool c.args.tables.now p b) c.pool-pool.ensures.value ∙ c.requires.routing p b) c.trace.ensures
