use Rattle.std.proofs.Common.{◌≤◌, [], false, drop, take}
use Rattle.sim_core.specs.Bases.{base_world}
use Rattle.asprop_run.specs.Inside.{AreInside}
use Rattle.asprop_run.proofs.Answering.{SoFar}
use Rattle.asprop_run.proofs.sweeping.write_sweeps.Given as goal

abbrev pub invariant-jobs : goal.invariant-jobs
invariant-jobs g l = record {
  later : g.O.Sink.faults l.fn.out ≤ g.O.Sink.faults l.out;
  so_far : SoFar (base_world l.base) (base_world l.base) (take l.place l.jobs) false (g.O.Sink.written l.fn.out) (g.O.Sink.written l.out) [];
  inside : AreInside (base_world l.base) (drop l.place l.jobs);
}
