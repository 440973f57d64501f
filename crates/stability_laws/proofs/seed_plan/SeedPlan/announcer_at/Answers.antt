use Rattle.std.proofs.Common.{◌∙◌, ap, List, ℕ}
use Rattle.std.specs.Prelude.{slice_get}
use Rattle.stability_laws.proofs.KeyLists.{copied_at}
use Rattle.stability_laws.proofs.PlanReads.{announcer_at_place}
use Rattle.stability_laws.proofs.PlanListings.{announcers_listed}
use Rattle.stability_laws.proofs.seed_plan.SeedPlan.announcer_at.Goals as goal

pub returns-clause-value : goal.returns-clause-value
returns-clause-value c =
    c.copied.ensures ∙ copied_at c.deref.result.now c.args.place c.get.result c.get.ensures.lookup.1 c.get.ensures.lookup.3 ∙ ap (λ (xs : List ℕ). slice_get xs c.args.place) c.deref.ensures.value
    ∙ announcer_at_place c.self.inside.prefixes.items c.self.inside.announced.items c.self.inside.announcers.items c.self.inside.leakers.items c.self.inside.leaking.items c.self.invariant c.args.self.now c.self.view_is c.args.place

pub returns-clause-listed : goal.returns-clause-listed
returns-clause-listed c = announcers_listed c.args.self.now
