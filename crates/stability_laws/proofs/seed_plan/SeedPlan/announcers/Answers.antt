use Rattle.std.proofs.Common.{◌∙◌}
use Rattle.stability_laws.proofs.PlanReads.{announcers_are}
use Rattle.stability_laws.proofs.seed_plan.SeedPlan.announcers.Goals as goal

pub returns : goal.returns
returns c =
    c.as_slice.ensures.value
    ∙ announcers_are c.self.inside.prefixes.items c.self.inside.announced.items c.self.inside.announcers.items c.self.inside.leakers.items c.self.inside.leaking.items c.self.invariant c.args.self.now c.self.view_is
