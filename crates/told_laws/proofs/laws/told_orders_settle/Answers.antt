use Rattle.std.proofs.Common.{◌≡◌, List, [], ◌∷◌, ◌++◌, None, ◌∙◌, subst, ap, append-nil}
use Rattle.clap.specs.Walk.{Text}
use Rattle.task_reading.specs.Jobs.{Job, acts_job}
use Rattle.asprop_run.specs.Replies.{AnswersJobs}
use Rattle.asprop_run.specs.Task.{outside}
use Rattle.told_laws.proofs.Tasks.{acts_of_task}
use Rattle.told_laws.proofs.laws.told_orders_settle.Goals as goal

pub returns : goal.returns
returns c = λ form reads t acts later pieces height number text routes refused other read jobs has most high enough told asked.
    let (file, said) = acts_of_task form reads t acts read jobs in
    let inside : outside t.world (acts_job acts ∷ []) ≡ None = subst (λ (js : List Job). outside t.world js ≡ None) jobs has.1 in
    let (first, rest, p, q, new, one, more, parts, refusal) = subst (λ (js : List Job). AnswersJobs t.world js text refused) jobs told in
    parts ∙ ap (λ (s : Text). first ++ s) more.0 ∙ append-nil first
    ∙ c.named_orders_settle.ensures t.world new later acts pieces height number first routes p other has.0 inside (c.acts_are_named.ensures file acts said) most high enough one asked
