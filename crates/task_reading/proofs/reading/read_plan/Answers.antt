use Rattle.std.proofs.Common.{[], refl, sym, ap, Some, Ok}
use Rattle.task_reading.proofs.reading.read_plan.Goals as goal

pub returns-in_default-clause-found : goal.returns-in_default-clause-found
returns-in_default-clause-found g c = rw c.in_default.is record { read = Some []; is_read = refl; finds = ap Ok (sym c.new.ensures) }
