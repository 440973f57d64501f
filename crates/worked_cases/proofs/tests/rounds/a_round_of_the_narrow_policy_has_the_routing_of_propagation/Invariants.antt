use Rattle.worked_cases.proofs.tests.rounds.a_round_of_the_narrow_policy_has_the_routing_of_propagation.Given as goal

abbrev pub ghosts-narrow : goal.ghosts-narrow
ghosts-narrow g a = record { name = a.blank.name; parts = a.blank.parts }
