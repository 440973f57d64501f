use Rattle.std.proofs.Common.{[], refl, sym, ap, Some, Ok, ◌∙◌}
use Rattle.task_reading.proofs.NoPayloads.{no_payloads_read}
use Rattle.task_reading.proofs.reading.read_payloads.Goals as goal

pub returns-in_default-clause-found : goal.returns-in_default-clause-found
returns-in_default-clause-found g c = rw c.in_default.is record { read = Some []; is_read = refl; finds = no_payloads_read ∙ ap Ok (sym c.new.ensures) }
