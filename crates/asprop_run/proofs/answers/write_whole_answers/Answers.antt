use Rattle.std.proofs.Common.{◌≡◌, ◌||◌, arith, inl, inr, subst, sym}
use Rattle.std.proofs.lemmas.List.Elements.{All-weaker}
use Rattle.std.proofs.lemmas.Result.{err_from_is_err_and}
use Rattle.asprop_run.specs.Loaded.{IsHeld, Serves, loaded_world}
use Rattle.asprop_run.specs.Written.{IsPassedOn}
use Rattle.asprop_run.proofs.Answering.{all, either, held_part, inside_at, next, of_all, part, whole}
use Rattle.task_reading.specs.Jobs.{job_seen}
use Rattle.sweep.proofs.Written.{rose_earlier}
use Rattle.asprop_run.proofs.answers.write_whole_answers.Goals as goal
use Rattle.asprop_run.proofs.answers.write_whole_answers.Goals.{then-first, else-first}

pub answer_job-requires-clause-inside : goal.answer_job-requires-clause-inside
answer_job-requires-clause-inside g c = (inside_at (loaded_world c.jobs.loaded) c.args.jobs.now c.jobs.place (job_seen c.in-Some.job) (sym c.in-Some.ensures.value) c.jobs.invariant.inside).0

pub answer_job-requires-clause-serves : goal.answer_job-requires-clause-serves
answer_job-requires-clause-serves g c = of_all (Serves c.jobs.loaded) c.args.jobs.now c.jobs.place (job_seen c.in-Some.job) (sym c.in-Some.ensures.value) c.jobs.invariant.serves

pub answer_job-requires-clause-held : goal.answer_job-requires-clause-held
answer_job-requires-clause-held g c = of_all IsHeld c.args.jobs.now c.jobs.place (job_seen c.in-Some.job) (sym c.in-Some.ensures.value) c.requires.held

pub returns-in_err-write_all-in-Err : goal.returns-in_err-write_all-in-Err
returns-in_err-write_all-in-Err g c =
    let p = err_from_is_err_and c.from_residual.result c.from_residual.ensures.1 in
    rw (p.1, p.2)
    (held_part _ _ _ _ _ _ _ _ _ _ (rose_earlier _ _ _ c.jobs.invariant.later c.in_err-write_all-in-Err.ensures.cause.failed) c.jobs.invariant.so_far (rw c.deref.ensures.value at c.in_err-write_all-in-Err.ensures.front))

pub returns-in-Err : goal.returns-in-Err
returns-in-Err g c = whole _ _ _ _ _ _ _ _ _ c.jobs.invariant.so_far (rw c.deref.ensures.value at c.in_ok-write_all-in-Err.ensures.whole)

pub returns-in_err-write_all : goal.returns-in_err-write_all
returns-in_err-write_all g c =
    let p = err_from_is_err_and c.from_residual-in_err-write_all.result c.from_residual-in_err-write_all.ensures.1 in
    rw (p.1, p.2)
    (held_part _ _ _ _ _ _ _ _ _ _ (rose_earlier _ _ _ c.jobs.invariant.later c.in_err-write_all.ensures.cause.failed) c.jobs.invariant.so_far (rw c.deref-2.ensures.value at c.in_err-write_all.ensures.front))

pub returns : goal.returns
returns g c = all _ _ _ _ _ _ _ _ _ c.jobs.invariant.so_far (rw c.deref-2.ensures.value at c.in_ok-write_all.ensures.whole) (omega (arith, c.jobs-test.false, c.count-place-end.ensures))

pub returns-in_err-pass_on-in-Ok : goal.returns-in_err-pass_on-in-Ok
returns-in_err-pass_on-in-Ok g c =
    let p = err_from_is_err_and c.from_residual-in_err-pass_on-in-Ok.result c.from_residual-in_err-pass_on-in-Ok.ensures.1 in
    rw (p.1, p.2)
    (part _ _ _ _ _ (job_seen c.in-Some.job) _ _ _ _ _ _ _ _ (rose_earlier _ _ _ c.jobs.invariant.later c.in_err-pass_on-in-Ok.ensures.cause.failed) (sym c.in-Some.ensures.value)
    c.jobs.invariant.so_far c.in-Ok.ensures.answered (rw c.deref-in-Ok.ensures.value at c.in_err-pass_on-in-Ok.ensures.err))

pub jobs-preserved : goal.jobs-preserved
jobs-preserved g c =
    let refused : c.if-first.refused ≡ (c.jobs.refused || c.in-Ok.first) =
    either c.jobs.refused c.in-Ok.first c.if-first.refused (elim c.if-first.branch [ then-first w ↦ inl (w.if-first.true, w.refused-is) | else-first w ↦ inr (w.if-first.false, w.refused-is) ]) in
    record {
      later = omega (arith, c.pass_on.ensures.cause.later, c.jobs.invariant.later);
      so_far = rw refused (next _ _ _ _ _ (job_seen c.in-Some.job) _ _ _ _ _ _ _ _ (sym c.in-Some.ensures.value) c.jobs.invariant.so_far c.in-Ok.ensures.answered
          (subst (λ t. IsPassedOn (g.O.Sink.written c.jobs.out) (g.O.Sink.written c.pass_on.new.out) c.jobs.held.items t c.pass_on.new.held.items) c.deref-in-Ok.ensures.value c.in_ok-pass_on-in-Ok.ensures.ok));
      inside = (inside_at (loaded_world c.jobs.loaded) c.args.jobs.now c.jobs.place (job_seen c.in-Some.job) (sym c.in-Some.ensures.value) c.jobs.invariant.inside).1 _ _ _ c.in-Ok.ensures.answered;
      serves = All-weaker (Serves c.jobs.loaded) (Serves c.answer_job.new.loaded) c.in-Ok.ensures.serves c.args.jobs.now c.jobs.invariant.serves;
      no_cycle = c.in-Ok.ensures.no_cycle;
    }
