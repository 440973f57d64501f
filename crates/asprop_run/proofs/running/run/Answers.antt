use Rattle.std.proofs.Common.{refl, true, false}
use Rattle.io_edge.proofs.Appending.{Appends-nil}
use Rattle.asprop_run.proofs.Ending.{all_written, explained, unformed}
use Rattle.asprop_run.proofs.StatusRows.{usage_row, usage_only, read_row, write_row}
use Rattle.asprop_run.proofs.running.run.Goals as goal

pub returns-in-Err : goal.returns-in-Err
returns-in-Err g c =
    let ran = unformed _ c.explain.ensures (Appends-nil _) in
    record { ran = ran; usage = usage_row ran; usage_only = usage_only ran; read_fault = read_row ran; write_fault = λ is. (write_row ran is).1.0 }

pub returns-in-Ok-true : goal.returns-in-Ok-true
returns-in-Ok-true g c =
    let ran = all_written true _ refl (rw c.in-Ok.ensures.form at (rw c.in-Ok-true.field-0-test at c.in-Ok-true.ensures)) (Appends-nil _) in
    record { ran = ran; usage = usage_row ran; usage_only = usage_only ran; read_fault = read_row ran; write_fault = λ is. (write_row ran is).1.0 }

pub returns-in-Ok-false : goal.returns-in-Ok-false
returns-in-Ok-false g c =
    let ran = all_written false _ refl (rw c.in-Ok.ensures.form at (rw c.in-Ok-false.field-0-test at c.in-Ok-false.ensures)) (Appends-nil _) in
    record { ran = ran; usage = usage_row ran; usage_only = usage_only ran; read_fault = read_row ran; write_fault = λ is. (write_row ran is).1.0 }

pub returns-in-Err-work : goal.returns-in-Err-work
returns-in-Err-work g c =
    let ran = explained _ _ (rw c.in-Ok.ensures.form at c.in-Err-work.ensures) (rw c.in-Ok.ensures.form at c.explain-in-Err-work.ensures) in
    record { ran = ran; usage = usage_row ran; usage_only = usage_only ran; read_fault = read_row ran; write_fault = λ is. (write_row ran is).1.0 }
