use Rattle.std.proofs.Common.{refl}
use Rattle.std.proofs.lemmas.Result.{err_from_is_err_and}
use Rattle.task_reading.proofs.Preparing.{no_links}
use Rattle.task_reading.proofs.InOrder.{payloads_error, scenario_error, jobs_error, all_found}
use Rattle.task_reading.proofs.asking.ask_file.Goals as goal

pub returns-in_err-links : goal.returns-in_err-links
returns-in_err-links g c =
    let p = err_from_is_err_and c.from_residual.result c.from_residual.ensures.1 in
    rw (p.1, p.2) (no_links _ _ _ _ _ c.in_err-links.ensures.found.read c.in_err-links.field-0.0 c.in_err-links.ensures.found.is_read c.in_err-links.ensures.found.finds)

pub returns-in_err-vrps : goal.returns-in_err-vrps
returns-in_err-vrps g c =
    let p = err_from_is_err_and c.from_residual-in_err-vrps.result c.from_residual-in_err-vrps.ensures.1 in
    rw (p.1, p.2) (payloads_error c.read_relations.ensures.keeps c.read_payloads.ensures.keeps _ _ _ _ _ c.in_ok-links.links c.in_err-vrps.field-0.0 c.in_ok-links.ensures.found c.in_err-vrps.ensures.found)

pub returns-in_err-scenario : goal.returns-in_err-scenario
returns-in_err-scenario g c =
    let p = err_from_is_err_and c.from_residual-in_err-scenario.result c.from_residual-in_err-scenario.ensures.1 in
    rw (p.1, p.2) (
    scenario_error c.read_relations.ensures.keeps c.read_payloads.ensures.keeps c.read_plan.ensures.keeps _ _ _ _ _ c.in_ok-links.links c.in_ok-vrps.vrps c.in_err-scenario.field-0.0
    c.in_ok-links.ensures.found c.in_ok-vrps.ensures.found c.in_err-scenario.ensures.found
    )

pub returns-in_err-jobs : goal.returns-in_err-jobs
returns-in_err-jobs g c =
    let p = err_from_is_err_and c.from_residual-in_err-jobs.result c.from_residual-in_err-jobs.ensures.1 in
    rw (p.1, p.2) (
    jobs_error c.read_relations.ensures.keeps c.read_payloads.ensures.keeps c.read_plan.ensures.keeps c.read_jobs.ensures.keeps _ _ _ _ _
    c.in_ok-links.links c.in_ok-vrps.vrps c.in_ok-scenario.scenario c.in_err-jobs.field-0.0
    c.in_ok-links.ensures.found c.in_ok-vrps.ensures.found c.in_ok-scenario.ensures.found c.in_err-jobs.ensures.found
    )

pub returns : goal.returns
returns g c =
    all_found c.read_relations.ensures.keeps c.read_payloads.ensures.keeps c.read_plan.ensures.keeps c.read_jobs.ensures.keeps _ _ _ _ _
    c.in_ok-links.links c.in_ok-vrps.vrps c.in_ok-scenario.scenario c.in_ok-jobs.jobs _
    c.in_ok-links.ensures.found c.in_ok-vrps.ensures.found c.in_ok-scenario.ensures.found c.in_ok-jobs.ensures.found refl
