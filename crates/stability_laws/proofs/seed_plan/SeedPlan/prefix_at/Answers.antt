use Rattle.std.proofs.Common.{◌∙◌, ap, List}
use Rattle.std.specs.Prelude.{slice_get}
use Rattle.net_names.specs.Prefixes.{PrefixValue}
use Rattle.net_names.specs.Orders.{prefix_total, exact_prefix}
use Rattle.stability_laws.proofs.KeyLists.{copied_at, keys_listed}
use Rattle.stability_laws.proofs.PlanReads.{prefix_at_place}
use Rattle.stability_laws.proofs.seed_plan.SeedPlan.prefix_at.Goals as goal

pub returns-clause-value : goal.returns-clause-value
returns-clause-value c =
    c.copied.ensures ∙ copied_at c.deref.result.now c.args.place c.get.result c.get.ensures.lookup.1 c.get.ensures.lookup.3 ∙ ap (λ (xs : List PrefixValue). slice_get xs c.args.place) c.deref.ensures.value
    ∙ prefix_at_place c.self.inside.prefixes.items c.self.inside.announced.items c.self.inside.announcers.items c.self.inside.leakers.items c.self.inside.leaking.items c.self.invariant c.args.self.now c.self.view_is c.args.place

pub returns-clause-listed : goal.returns-clause-listed
returns-clause-listed c = keys_listed prefix_total exact_prefix c.args.self.now.prefixes
