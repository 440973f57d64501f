use Rattle.std.proofs.Common.{◌∙◌, ap, subst, sym}
use Rattle.path_pool.specs.declared.pool.PathPool.{PathPool}
use Rattle.route_choice.specs.RoundTables.{AreAllLive, round_routing}
use Rattle.stability_laws.specs.Plans.{Plan, has_prefix}
use Rattle.trial_world.proofs.tables.seen_in.Goals as goal

pub returns : goal.returns
returns c =
    let tables = c.in-Some.tables.now in
    record {
      routing = λ p a. ap (λ (pool : PathPool). round_routing pool tables p a) c.pool-pool.ensures.value ∙ c.in-Some.ensures.routing p a;
      prefixes = λ p. c.in-Some.ensures.prefixes p ∙ ap (λ (plan : Plan). has_prefix plan p) c.requires.line.plan_is;
      live = subst (λ (pool : PathPool). AreAllLive pool tables) (sym c.pool-pool.ensures.value) c.in-Some.ensures.live;
      plan = c.plan-plan.ensures.value;
    }
