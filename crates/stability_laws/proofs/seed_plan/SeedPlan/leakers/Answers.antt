use Rattle.std.proofs.Common.{◌≡◌, ◌∙◌, ◌-◌, ℕ, List, map, take, drop, sym, ap}
use Rattle.net_names.specs.Numbers.{occurs}
use Rattle.stability_laws.specs.Plans.{in_round, leakers_of}
use Rattle.stability_laws.proofs.PlanListings.{occurs_in_round}
use Rattle.stability_laws.proofs.PlanReads.{leakers_are}
use Rattle.stability_laws.proofs.seed_plan.SeedPlan.leakers.Goals as goal

pub returns-clause-value : goal.returns-clause-value
returns-clause-value c =
    let (first, end) = c.span_of-first.result in
    let pairs = c.as_slice.ensures.value in
    ap (λ (xs : List ℕ). take (end - first) (drop first xs)) (c.deref.ensures.value ∙ c.self.invariant.leaking_are ∙ sym (ap (map (λ (x : ℕ × ℕ). x.1)) pairs))
    ∙ c.span_of-first.ensures.span ∙ ap (in_round c.args.round) pairs
    ∙ leakers_are c.self.inside.prefixes.items c.self.inside.announced.items c.self.inside.announcers.items c.self.inside.leakers.items c.self.inside.leaking.items c.self.invariant c.args.self.now c.self.view_is c.args.round

pub returns-clause-who : goal.returns-clause-who
returns-clause-who c = λ a. ap (occurs a) (returns-clause-value c) ∙ occurs_in_round c.args.self.now c.args.round a
