use Rattle.net_names.specs.Lines.{kept_from}
use Rattle.message_sim.proofs.Said.{file_said, said_file}
use Rattle.message_sim.proofs.laws.deliveries_are_those_said.Goals as goal

pub returns : goal.returns
returns c = λ bytes d. (file_said (kept_from 1 bytes) d, said_file (kept_from 1 bytes) d)
