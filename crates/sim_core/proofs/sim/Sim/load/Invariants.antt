use Rattle.sim_core.proofs.sim.Sim.load.Given as goal

abbrev pub ghosts-keep : goal.ghosts-keep
ghosts-keep a = record { name = a.blank.name; parts = a.blank.parts }
