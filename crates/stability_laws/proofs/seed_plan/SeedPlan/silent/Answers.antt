use Rattle.stability_laws.proofs.PlanEdits.{silent_is, silent_are}
use Rattle.stability_laws.proofs.seed_plan.SeedPlan.silent.Goals as goal

pub invariant_of-result : goal.invariant_of-result
invariant_of-result c =
    rw (c.in_ok-items_of.ensures, c.as_slice.ensures.value, c.new.ensures.items, c.new-2.ensures.items, c.in_ok-items_of-2.ensures, c.as_slice-2.ensures.value, c.in_ok-items_of-3.ensures, c.as_slice-3.ensures.value)
    (silent_are c.self.inside.prefixes.items c.self.inside.announced.items c.self.inside.announcers.items c.self.inside.leakers.items c.self.inside.leaking.items c.self.invariant)

pub returns : goal.returns
returns c =
    rw (c.in_ok-items_of.ensures, c.as_slice.ensures.value, c.new.ensures.items, c.in_ok-items_of-2.ensures, c.as_slice-2.ensures.value)
    (silent_is c.self.inside.prefixes.items c.self.inside.announced.items c.self.inside.announcers.items c.self.inside.leakers.items c.self.inside.leaking.items c.self.invariant c.args.self.now c.self.view_is)
