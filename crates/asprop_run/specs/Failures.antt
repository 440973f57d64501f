-- Why the work stops, by the errors of its parts (private clauses cite these words).
use Rattle.sim_core.specs.declared.errors.LoadError.{LoadError}
use Rattle.sim_core.specs.declared.errors.LoadError.TheVariants as load_error
use Rattle.sweep.specs.declared.error.RowsError.{RowsError}
use Rattle.sweep.specs.declared.error.RowsError.TheVariants as rows_error
use Rattle.task_reading.specs.declared.types.AskError.{AskError}
use Rattle.task_reading.specs.declared.types.AskError.TheVariants as ask_error
use Rattle.task_reading.specs.declared.types.Fault.TheVariants.{TooManyAses}
use Rattle.asprop_run.specs.declared.types.Failure.{Failure}
use Rattle.asprop_run.specs.declared.types.Failure.TheVariants as failure

-- nothing is asked for
abbrev pub unasked : AskError → Failure
unasked ask_error.Memory = failure.Memory
unasked (ask_error.Fault fault) = failure.Fault fault

-- no world is loaded
abbrev pub unloaded : LoadError → Failure
unloaded load_error.Memory = failure.Memory
unloaded load_error.TooManyAses = failure.Fault TooManyAses
unloaded (load_error.ProviderCycle cycle) = failure.Cycle cycle

-- the rows of a sweep end early
abbrev pub unwritten : RowsError → Failure
unwritten rows_error.Memory = failure.Memory
unwritten rows_error.Write = failure.Write
