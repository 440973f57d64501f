use Rattle.std.proofs.Common.{◌≤◌, All, drop, take}
use Rattle.sim_core.specs.World.{HasCycle}
use Rattle.asprop_run.specs.Inside.{AreInside}
use Rattle.asprop_run.specs.Loaded.{Serves, loaded_world}
use Rattle.asprop_run.proofs.Answering.{SoFar}
use Rattle.asprop_run.proofs.answers.write_whole_answers.Given as goal

abbrev pub invariant-jobs : goal.invariant-jobs
invariant-jobs g l = record {
  later : g.O.Sink.faults l.fn.out ≤ g.O.Sink.faults l.out;
  so_far : SoFar (loaded_world l.fn.loaded) (loaded_world l.loaded) (take l.place l.jobs) l.refused (g.O.Sink.written l.fn.out) (g.O.Sink.written l.out) l.held.items;
  inside : AreInside (loaded_world l.loaded) (drop l.place l.jobs);
  serves : All (Serves l.loaded) l.jobs;
  no_cycle : HasCycle (loaded_world l.loaded) → ⊥;
}
