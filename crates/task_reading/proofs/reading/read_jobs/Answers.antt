use Rattle.std.proofs.Common.{[], Some, refl}
use Rattle.task_reading.proofs.ReadLemmas.{jobs_found}
use Rattle.task_reading.proofs.reading.read_jobs.Goals as goal

pub returns-in_default-clause-found : goal.returns-in_default-clause-found
returns-in_default-clause-found g c = rw c.in_default.is record { read = Some []; is_read = refl; finds = jobs_found c.args.option _ c.jobs_in.ensures }
