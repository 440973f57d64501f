use Rattle.scenario_text.proofs.Passing.{said_of, accepted_if_said}
use Rattle.scenario_text.proofs.laws.scenarios_are_those_said.Goals as goal

pub returns : goal.returns
returns c = λ bytes s. (said_of bytes s, λ h. accepted_if_said bytes s h.0 h.1)
