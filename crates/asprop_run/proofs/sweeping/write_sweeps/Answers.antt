use Rattle.std.proofs.Common.{◌≡◌, arith, sym}
use Rattle.std.proofs.lemmas.Result.{err_from_is_err_and}
use Rattle.sim_core.specs.Bases.{base_world}
use Rattle.sweep.proofs.Written.{rose_earlier}
use Rattle.task_reading.specs.Jobs.{job_seen}
use Rattle.asprop_run.specs.Loaded.{ServesSweep}
use Rattle.asprop_run.proofs.Answering.{all_written, inside_at, next_written, of_all, stopped}
use Rattle.asprop_run.proofs.sweeping.write_sweeps.Goals as goal

pub write_sweep-requires-clause-serves : goal.write_sweep-requires-clause-serves
write_sweep-requires-clause-serves g c = of_all (ServesSweep (base_world c.args.base.now) c.args.ranks.now) c.args.jobs.now c.jobs.place (job_seen c.in-Some.job) (sym c.in-Some.ensures.value) c.requires.serves

pub write_sweep-requires-clause-inside : goal.write_sweep-requires-clause-inside
write_sweep-requires-clause-inside g c = (inside_at (base_world c.args.base.now) c.args.jobs.now c.jobs.place (job_seen c.in-Some.job) (sym c.in-Some.ensures.value) c.jobs.invariant.inside).0

pub jobs-preserved : goal.jobs-preserved
jobs-preserved g c =
    let at = sym c.in-Some.ensures.value in
    let wrote = c.in_ok-write_sweep.ensures.ok in
    record {
      later = omega (arith, c.write_sweep.ensures.later, c.jobs.invariant.later);
      so_far = next_written (base_world c.args.base.now) c.args.jobs.now c.jobs.place (job_seen c.in-Some.job) (g.O.Sink.written c.args.out.now) (g.O.Sink.written c.jobs.out) (g.O.Sink.written c.write_sweep.new.out) at c.jobs.invariant.so_far wrote;
      inside = (inside_at (base_world c.args.base.now) c.args.jobs.now c.jobs.place (job_seen c.in-Some.job) at c.jobs.invariant.inside).1 _ _ _ wrote.is;
    }

pub returns-in_err-write_sweep : goal.returns-in_err-write_sweep
returns-in_err-write_sweep g c =
    let p = err_from_is_err_and c.from_residual.result c.from_residual.ensures.1 in
    rw (p.1, p.2)
    (stopped (base_world c.args.base.now) c.args.jobs.now c.jobs.place (job_seen c.in-Some.job) (g.O.Sink.written c.args.out.now) (g.O.Sink.written c.jobs.out) (g.O.Sink.written c.write_sweep.new.out) _ _ _
    (rose_earlier _ _ _ c.jobs.invariant.later) (sym c.in-Some.ensures.value) c.jobs.invariant.so_far c.in_err-write_sweep.ensures.err)

pub returns : goal.returns
returns g c =
    all_written (base_world c.args.base.now) c.args.jobs.now c.jobs.place (g.O.Sink.written c.args.out.now) (g.O.Sink.written c.jobs.out) c.jobs.invariant.so_far (omega (arith, c.jobs-test.false, c.count-place-end.ensures))
