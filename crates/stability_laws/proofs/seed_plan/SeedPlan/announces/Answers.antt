use Rattle.std.proofs.Common.{◌∙◌, []}
use Rattle.stability_laws.proofs.PlanReads.{announces_by}
use Rattle.stability_laws.proofs.seed_plan.SeedPlan.announces.Goals as goal

pub returns-clause-value : goal.returns-clause-value
returns-clause-value c =
    c.is_ok.ensures.value
    ∙ announces_by c.self.inside.prefixes.items c.self.inside.announced.items c.self.inside.announcers.items c.self.inside.leakers.items c.self.inside.leaking.items c.self.invariant c.args.self.now c.self.view_is c.as_slice.result.now c.as_slice.ensures.value c.args.prefix c.args.asn
    (record { prefix = c.args.prefix; asn = c.args.asn; path = [] }) c.place_of.result (c.place_of.ensures.bound, c.place_of.ensures.position)
