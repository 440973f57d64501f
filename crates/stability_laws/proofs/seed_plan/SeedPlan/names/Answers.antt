use Rattle.std.proofs.Common.{◌||◌, ◌∙◌, ℕ, List, ap}
use Rattle.net_names.specs.Numbers.{occurs}
use Rattle.stability_laws.specs.Plans.{announcers_of}
use Rattle.stability_laws.proofs.PlanReads.{leaking_in_some}
use Rattle.stability_laws.proofs.seed_plan.SeedPlan.names.Goals as goal

pub returns : goal.returns
returns c =
    let a = c.args.asn in
    (λ i. c.contains-announces.ensures.value i || c.contains.ensures.value i)
    ∙ (λ i. occurs a (c.announcers.ensures i) || occurs a (c.deref.ensures.value i))
    ∙ ap (λ (xs : List ℕ). occurs a (announcers_of c.args.self.now) || occurs a xs) (leaking_in_some c.self.inside.prefixes.items c.self.inside.announced.items c.self.inside.announcers.items c.self.inside.leakers.items c.self.inside.leaking.items c.self.invariant c.args.self.now c.self.view_is)
