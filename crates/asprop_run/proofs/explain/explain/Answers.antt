use Rattle.std.proofs.Common.{ℕ, List, refl, sym, ◌∙◌, subst, option_map}
use Rattle.asprop_run.specs.Streams.{stream_of}
use Rattle.asprop_run.specs.Runs.{Explained, Reports}
use Rattle.task_reading.specs.Words.{form_seen}
use Rattle.asprop_run.specs.declared.types.Failure.{Failure}
use Rattle.asprop_run.specs.declared.types.Failure.TheVariants as failure
use Rattle.task_reading.specs.declared.types.Status.TheVariants as status
use Rattle.asprop_run.proofs.Ending.{own, short}
use Rattle.asprop_run.proofs.explain.explain.Goals as goal

pub returns-in-Ok : goal.returns-in-Ok
returns-in-Ok g c =
    let err = stream_of g.E.Sink.written g.E.Sink.faults c.args.err.now c.report-in-Ok.new.err in
    let P : Failure → Type 0 = λ reason. Explained (option_map form_seen c.args.form.now) reason status.BadInput err in
    subst P (sym c.in-Cycle.is) (own (failure.Cycle _) refl (subst (λ (text : List ℕ). Reports text err) (c.deref.ensures.value ∙ c.in-Ok.ensures) c.report-in-Ok.ensures))

pub returns-in-Err : goal.returns-in-Err
returns-in-Err g c =
    let err = stream_of g.E.Sink.written g.E.Sink.faults c.args.err.now c.report-in-Err.new.err in
    let P : Failure → Type 0 = λ reason. Explained (option_map form_seen c.args.form.now) reason status.NoMemory err in
    subst P (sym c.in-Cycle.is) (short (failure.Cycle _) tt c.report-in-Err.ensures)
