use Rattle.worked_cases.proofs.tests.rounds.tidied_rounds_hold_what_they_held.Given as goal

abbrev pub ghosts-tidied : goal.ghosts-tidied
ghosts-tidied g a = record { name = a.blank.name; parts = a.blank.parts }
