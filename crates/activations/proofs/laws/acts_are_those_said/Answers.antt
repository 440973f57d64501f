use Rattle.net_names.specs.Lines.{kept_from}
use Rattle.activations.proofs.Said.{file_said, said_file}
use Rattle.activations.proofs.laws.acts_are_those_said.Goals as goal

pub returns : goal.returns
returns c = λ bytes acts. (file_said (kept_from 1 bytes) acts, said_file (kept_from 1 bytes) acts)
