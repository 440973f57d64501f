use Rattle.std.proofs.Common.{ℕ, List, refl, sym, ◌∙◌, subst, option_map}
use Rattle.asprop_run.specs.Streams.{stream_of}
use Rattle.asprop_run.specs.Runs.{Explained, Reports}
use Rattle.task_reading.specs.Words.{form_seen}
use Rattle.asprop_run.specs.declared.types.Failure.TheVariants as failure
use Rattle.task_reading.specs.declared.types.Fault.{Fault}
use Rattle.task_reading.specs.declared.types.Fault.TheVariants as fault
use Rattle.task_reading.specs.declared.types.Status.TheVariants as status
use Rattle.asprop_run.proofs.Ending.{own, short}
use Rattle.asprop_run.proofs.explain.explain_fault.Goals as goal

pub returns-in-Usage : goal.returns-in-Usage
returns-in-Usage g c =
    let err = stream_of g.E.Sink.written g.E.Sink.faults c.args.err.now c.report.new.err in
    let form = option_map form_seen c.args.form.now in
    let P : Fault → Type 0 = λ f. Explained form (failure.Fault f) status.Usage err in
    subst P (sym c.in-Usage.is)
    (own (failure.Fault fault.Usage) refl (subst (λ (text : List ℕ). Reports text err) (c.as_bytes.ensures.value ∙ c.usage_message.ensures) c.report.ensures))

pub returns-in-TooManyAses : goal.returns-in-TooManyAses
returns-in-TooManyAses g c =
    let err = stream_of g.E.Sink.written g.E.Sink.faults c.args.err.now c.report-in-TooManyAses.new.err in
    let form = option_map form_seen c.args.form.now in
    let P : Fault → Type 0 = λ f. Explained form (failure.Fault f) status.TooLarge err in
    subst P (sym c.in-TooManyAses.is)
    (own (failure.Fault fault.TooManyAses) refl (subst (λ (text : List ℕ). Reports text err) (c.as_bytes-in-TooManyAses.ensures.value ∙ c.ases_message.ensures) c.report-in-TooManyAses.ensures))

pub returns-in-Ok : goal.returns-in-Ok
returns-in-Ok g c =
    let err = stream_of g.E.Sink.written g.E.Sink.faults c.args.err.now c.report-in-Ok.new.err in
    let form = option_map form_seen c.args.form.now in
    let file : Fault = fault.InFile c.in-InFile.file c.in-InFile.cause in
    let P : Fault → Type 0 = λ f. Explained form (failure.Fault f) c.fault_status.result err in
    let ends = c.fault_status.ensures form in
    subst P (sym c.in-InFile.is)
    (own (failure.Fault file) ends (subst (λ (text : List ℕ). Reports text err) (c.as_bytes-in-Ok.ensures.value ∙ c.in-Ok.ensures) c.report-in-Ok.ensures))

pub returns-in-Err : goal.returns-in-Err
returns-in-Err g c =
    let err = stream_of g.E.Sink.written g.E.Sink.faults c.args.err.now c.report-in-Err.new.err in
    let P : Fault → Type 0 = λ f. Explained (option_map form_seen c.args.form.now) (failure.Fault f) status.NoMemory err in
    subst P (sym c.in-InFile.is) (short (failure.Fault (fault.InFile c.in-InFile.file c.in-InFile.cause)) tt c.report-in-Err.ensures)
