use Rattle.std.proofs.Common.{◌||◌, ◌∙◌, ℕ, List, ap}
use Rattle.net_names.specs.Numbers.{occurs}
use Rattle.stability_laws.specs.Plans.{announcers_of}
use Rattle.stability_laws.specs.SeedEdits.{without_announcement}
use Rattle.stability_laws.proofs.Naming.{names_another}
use Rattle.stability_laws.proofs.PlanEdits.{announcements_are}
use Rattle.stability_laws.proofs.PlanReads.{leaking_in_some}
use Rattle.stability_laws.proofs.seed_plan.SeedPlan.names_without.Goals as goal

pub returns : goal.returns
returns c =
    let a = c.args.asn in
    let s = c.self.inside in
    let plan = c.args.self.now in
    let announced = announcements_are s.prefixes.items s.announced.items s.announcers.items s.leakers.items s.leaking.items c.self.invariant plan c.self.view_is c.as_slice.result.now c.as_slice.ensures.value in
    (λ i. c.announces_another-announces.ensures i || c.contains.ensures.value i)
    ∙ (λ i. names_another plan c.args.prefix a c.as_slice.result.now announced i || occurs a (c.deref.ensures.value i))
    ∙ ap (λ (xs : List ℕ). occurs a (announcers_of (without_announcement plan c.args.prefix a)) || occurs a xs) (leaking_in_some s.prefixes.items s.announced.items s.announcers.items s.leakers.items s.leaking.items c.self.invariant plan c.self.view_is)
