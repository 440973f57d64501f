use Rattle.std.specs.Prelude.{ok_or}
use Rattle.scenario_text.specs.declared.faults.ScenarioError.TheVariants.{NotJson}
use Rattle.scenario_text.specs.Members.{lists_in}
use Rattle.scenario_text.specs.Readings.{json_of}
use Rattle.scenario_text.proofs.Sound.{first_step, sound}
use Rattle.scenario_text.proofs.reading.read_scenario.Goals as goal

pub from_lists-requires : goal.from_lists-requires
from_lists-requires c =
    let lists = c.in_ok-lists.lists in
    let value = first_step (ok_or (json_of c.args.bytes.now) NotJson) lists_in lists c.in_ok-lists.ensures in
    sound value.0 lists lists value.2 c.in_ok-test_once.ensures c.in_ok-test_limits.ensures
