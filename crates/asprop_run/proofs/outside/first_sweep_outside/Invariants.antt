use Rattle.std.proofs.Common.{◌≡◌, drop}
use Rattle.sim_core.specs.Bases.{base_world}
use Rattle.asprop_run.specs.Task.{outside}
use Rattle.asprop_run.proofs.outside.first_sweep_outside.Given as goal

abbrev pub invariant-jobs : goal.invariant-jobs
invariant-jobs l = outside (base_world l.base) l.jobs ≡ outside (base_world l.base) (drop l.place l.jobs)
