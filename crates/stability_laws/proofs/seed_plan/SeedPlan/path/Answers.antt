use Rattle.std.proofs.Common.{◌∙◌, sym, ap, Some}
use Rattle.stability_laws.specs.declared.seed_plan.Announcement.{Announcement}
use Rattle.stability_laws.proofs.PlanReads.{found, missed}
use Rattle.stability_laws.proofs.seed_plan.SeedPlan.path.Goals as goal

pub returns-in-Ok-clause-value : goal.returns-in-Ok-clause-value
returns-in-Ok-clause-value c =
    ap (λ (x : Announcement). Some x.path) c.index.ensures
    ∙ sym (found c.self.inside.prefixes.items c.self.inside.announced.items c.self.inside.announcers.items c.self.inside.leakers.items c.self.inside.leaking.items c.self.invariant c.args.self.now c.self.view_is c.as_slice.result.now c.as_slice.ensures.value c.args.prefix c.args.asn
    c.in-Ok.at c.index.result.now (c.in-Ok.ensures.bound, c.in-Ok.ensures.position))

pub returns-in-Err-clause-value : goal.returns-in-Err-clause-value
returns-in-Err-clause-value c =
    sym (missed c.self.inside.prefixes.items c.self.inside.announced.items c.self.inside.announcers.items c.self.inside.leakers.items c.self.inside.leaking.items c.self.invariant c.args.self.now c.self.view_is c.as_slice.result.now c.as_slice.ensures.value c.args.prefix c.args.asn
    c.in-Err.field-0 (c.in-Err.ensures.bound, c.in-Err.ensures.position))
