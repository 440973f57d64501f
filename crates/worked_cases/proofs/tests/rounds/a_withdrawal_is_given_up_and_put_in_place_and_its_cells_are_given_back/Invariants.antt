use Rattle.worked_cases.proofs.tests.rounds.a_withdrawal_is_given_up_and_put_in_place_and_its_cells_are_given_back.Given as goal

abbrev pub ghosts-withdrawn : goal.ghosts-withdrawn
ghosts-withdrawn g a = record { name = a.blank.name; parts = a.blank.parts }
