use Rattle.stability_laws.proofs.PlanListings.{leakers_listed}
use Rattle.stability_laws.proofs.seed_plan.SeedPlan.leaker_at.Goals as goal

pub returns-clause-listed : goal.returns-clause-listed
returns-clause-listed c = leakers_listed c.args.self.now c.args.round
