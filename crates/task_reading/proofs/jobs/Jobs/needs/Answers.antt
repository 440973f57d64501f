use Rattle.std.proofs.Common.{◌≡◌, inl, inr, All, List, ap, subst}
use Rattle.task_reading.specs.Jobs.{Job, needs_of}
use Rattle.task_reading.specs.declared.jobs.Needs.{Needs}
use Rattle.task_reading.specs.declared.jobs.Needs.TheVariants.{Kept}
use Rattle.task_reading.proofs.Shapes.{asks_need, need_alike}
use Rattle.task_reading.proofs.jobs.Jobs.needs.Goals as goal

pub returns-in-Lines : goal.returns-in-Lines
returns-in-Lines c =
    let need : asks_need c.self.inside.asks ≡ Kept = elim c.in-Lines.is [
      | inl lines ↦ ap asks_need lines.1
      | inr alone ↦ elim alone [ inl acts ↦ ap asks_need acts.1 | inr messages ↦ ap asks_need messages.1 ]
    ] in
    subst (λ (p : Needs × List Job). All (λ job. needs_of job ≡ p.0) p.1) (λ i. (need i, c.self.view_is i)) (need_alike c.self.inside.asks)

pub returns-in-Sweeps : goal.returns-in-Sweeps
returns-in-Sweeps c =
    subst (λ (p : Needs × List Job). All (λ job. needs_of job ≡ p.0) p.1) (λ i. (ap asks_need c.in-Sweeps.is i, c.self.view_is i)) (need_alike c.self.inside.asks)
