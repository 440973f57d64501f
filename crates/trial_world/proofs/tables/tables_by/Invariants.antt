use Rattle.trial_world.proofs.tables.tables_by.Given as goal

abbrev pub ghosts-rounds_of : goal.ghosts-rounds_of
ghosts-rounds_of a = record { name = a.blank.name; parts = a.blank.parts }
