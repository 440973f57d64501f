use Rattle.task_reading.proofs.Preparing.{no_form}
use Rattle.task_reading.proofs.asking.ask.Goals as goal

pub returns-in_default : goal.returns-in_default
returns-in_default g c = rw c.in_default.is no_form
