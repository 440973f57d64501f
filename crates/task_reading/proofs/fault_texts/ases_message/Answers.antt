use Rattle.std.proofs.Common.{refl}
use Rattle.std.specs.Fmt.{digits}
use Rattle.task_reading.proofs.fault_texts.ases_message.Goals as goal

pub returns : goal.returns
unfolding digits
returns c = refl
