use Rattle.std.proofs.Common.{All, subst}
use Rattle.asprop_run.specs.Loaded.{Serves}
use Rattle.asprop_run.specs.declared.loaded.Loaded.{Loaded}
use Rattle.asprop_run.proofs.answers.write_answers.Goals as goal

pub write_sweeps-requires-clause-serves : goal.write_sweeps-requires-clause-serves
write_sweeps-requires-clause-serves g c = subst (λ (l : Loaded). All (Serves l) c.args.jobs.now) c.in-Ranked.is c.requires.serves
