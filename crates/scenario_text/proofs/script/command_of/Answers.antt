use Rattle.scenario_text.proofs.script.command_of.Goals as goal

pub returns-then-before-lt-MOST_COMMANDS-clause-sound : goal.returns-then-before-lt-MOST_COMMANDS-clause-sound
returns-then-before-lt-MOST_COMMANDS-clause-sound c = rw c.in-Some.is at c.in_ok-act.ensures.sound
