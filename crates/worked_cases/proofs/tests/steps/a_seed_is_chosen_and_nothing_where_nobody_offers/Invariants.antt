use Rattle.worked_cases.proofs.tests.steps.a_seed_is_chosen_and_nothing_where_nobody_offers.Given as goal

abbrev pub ghosts-choices : goal.ghosts-choices
ghosts-choices g a = record { name = a.blank.name; parts = a.blank.parts }
