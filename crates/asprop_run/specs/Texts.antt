-- The statuses and texts of how a run ends.
use Rattle.std.specs.Prelude.{Bool, if◌then◌else◌, [], ◌++◌, codes, Option, Result, Ok, Err}
use Rattle.clap.specs.Walk.{Text}
use Rattle.net_names.specs.Texts.{numbers_text}
use Rattle.task_reading.specs.Texts.{fault_ending, message}
use Rattle.task_reading.specs.Words.{Form}
use Rattle.task_reading.specs.declared.types.Status.{Status}
use Rattle.task_reading.specs.declared.types.Status.TheVariants as status
use Rattle.task_reading.specs.declared.types.Status.TheVariants.{BadInput}
use Rattle.asprop_run.specs.declared.types.Failure.{Failure}
use Rattle.asprop_run.specs.declared.types.Failure.TheVariants as failure
use Rattle.asprop_run.specs.declared.types.Failure.TheVariants.{Cycle}

-- the table of how the work may end, each with its status and its text (own format)
abbrev pub ending_of : Option Form → Result Bool Failure → Status × Text
ending_of form (Ok refused) = (if refused then status.SomeRefused else status.Done, [])
ending_of form (Err failure.Memory) = (status.NoMemory, message (codes "out of memory"))
ending_of form (Err failure.Write) = (status.WriteFault, message (codes "write fault"))
ending_of form (Err (Cycle c)) = (BadInput, message (codes "provider cycle: " ++ numbers_text c))
ending_of form (Err (failure.Fault fault)) = fault_ending form fault
