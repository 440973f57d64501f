use Rattle.std.proofs.Common.{◌≡◌, ◌+◌, ℕ, Option, drop, sym, ap, ◌∙◌}
use Rattle.std.specs.Option.{option_or}
use Rattle.sim_core.specs.Bases.{base_world}
use Rattle.asprop_run.specs.Task.{outside}
use Rattle.asprop_run.proofs.Answering.{drop_next, of_all}
use Rattle.task_reading.specs.Jobs.{Job, job_seen, needs_of}
use Rattle.task_reading.specs.declared.jobs.Needs.TheVariants.{Ranks}
use Rattle.asprop_run.proofs.outside.first_sweep_outside.Goals as goal

pub line_outside-requires : goal.line_outside-requires
line_outside-requires c = of_all (λ (job : Job). needs_of job ≡ Ranks) c.args.jobs.now c.jobs.place (job_seen c.in-Some.job) (sym c.in-Some.ensures.value) c.requires

pub returns-in-Some-line_outside : goal.returns-in-Some-line_outside
returns-in-Some-line_outside c =
    let w = base_world c.args.base.now in
    let rest = drop (c.jobs.place + 1) c.args.jobs.now in
    sym (c.jobs.invariant ∙ ap (outside w) (drop_next c.args.jobs.now c.jobs.place (job_seen c.in-Some.job) (sym c.in-Some.ensures.value)) ∙ c.line_outside.ensures rest
    ∙ ap (λ (o : Option ℕ). option_or o (outside w rest)) c.in-Some-line_outside.is)

pub jobs-preserved : goal.jobs-preserved
jobs-preserved c =
    let w = base_world c.args.base.now in
    let rest = drop (c.jobs.place + 1) c.args.jobs.now in
    c.jobs.invariant ∙ ap (outside w) (drop_next c.args.jobs.now c.jobs.place (job_seen c.in-Some.job) (sym c.in-Some.ensures.value)) ∙ c.line_outside.ensures rest
    ∙ ap (λ (o : Option ℕ). option_or o (outside w rest)) c.in_default-line_outside.is
