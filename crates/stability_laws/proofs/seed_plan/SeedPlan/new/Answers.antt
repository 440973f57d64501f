use Rattle.stability_laws.proofs.PlanReads.{plan_of_none, none_are_plan}
use Rattle.stability_laws.proofs.seed_plan.SeedPlan.new.Goals as goal

pub invariant_of-result : goal.invariant_of-result
invariant_of-result c = rw (c.new.ensures.items, c.new-2.ensures.items, c.new-3.ensures.items, c.new-4.ensures.items, c.new-5.ensures.items) none_are_plan

pub returns : goal.returns
returns c = rw (c.new.ensures.items, c.new-2.ensures.items, c.new-4.ensures.items) plan_of_none
