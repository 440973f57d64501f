use Rattle.stability_laws.proofs.PlanEdits.{IsAgain}
use Rattle.stability_laws.proofs.seed_plan.SeedPlan.without.Given as goal

abbrev pub invariant-loop-one : goal.invariant-loop-one
invariant-loop-one l = IsAgain l.self l.plan l.prefix l.asn l.one-items l.one-index
