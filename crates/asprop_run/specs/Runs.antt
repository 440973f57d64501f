-- How a run ends, what it writes, and what it says of a fault.
use Rattle.std.specs.Prelude.{◌≡◌, ◌⊎◌, Bool, List, [], Option, Some, option_map, Result, Ok, Err}
use Rattle.clap.specs.Walk.{Text}
use Rattle.as_graph.specs.Topology.{relation}
use Rattle.cycle_check.specs.Cycles.{IsCycleFromLowest}
use Rattle.sim_core.specs.World.{HasCycle, topology}
use Rattle.asprop_run.specs.Streams.{Stream}
use Rattle.task_reading.specs.Sources.{Source}
use Rattle.task_reading.specs.Words.{Form, form_of}
use Rattle.asprop_run.specs.Task.{HasAnswers, Task, outside, task_of}
use Rattle.asprop_run.specs.Texts.{ending_of}
use Rattle.task_reading.specs.Files.{AreReads}
use Rattle.asprop_run.specs.Written.{Wrote, WroteSome}
use Rattle.task_reading.specs.declared.types.Cause.TheVariants.{NotInWorld}
use Rattle.task_reading.specs.declared.types.File.{File}
use Rattle.task_reading.specs.declared.types.File.TheVariants.{Asked}
use Rattle.task_reading.specs.declared.types.Fault.{Fault}
use Rattle.task_reading.specs.declared.types.Fault.TheVariants.{InFile}
use Rattle.asprop_run.specs.declared.types.Failure.{Failure}
use Rattle.asprop_run.specs.declared.types.Failure.TheVariants as failure
use Rattle.asprop_run.specs.declared.types.Failure.TheVariants.{Memory, Write, Cycle}
use Rattle.task_reading.specs.declared.types.Status.{Status}

-- What the work over a task or a fault ends with, and what it writes: all answers; or where memory ran out nothing, or whole answers to some jobs in front, and of a sweep behind them the rows of some trials from the first on; or where a write failed a front of such a text; or nothing, where there is a provider cycle, told from its lowest number on, or else where a line of an option's file names what isn't in the world, or where there is a fault.
abbrev pub Outcome : Result Task Fault → Result Bool Failure → Stream → Type 0
Outcome (Ok t) (Ok refused) o = HasAnswers t × Wrote t.world t.jobs refused o.wrote
Outcome (Ok t) (Err Memory) o = o.wrote [] ⊎ (HasAnswers t × WroteSome t o.wrote)
Outcome (Ok t) (Err Write) o = HasAnswers t × WroteSome t o.failed
Outcome (Ok t) (Err (Cycle c)) o = IsCycleFromLowest (relation (topology t.world)) c × o.wrote []
Outcome (Ok t) (Err (failure.Fault f)) o = (HasCycle t.world → ⊥) ×
    (option_map (λ n. InFile Asked (NotInWorld n)) (outside t.world t.jobs) ≡ Some f) × o.wrote []
Outcome (Err fault) (Err Memory) o = o.wrote []
Outcome (Err fault) (Err (failure.Fault found)) o = (found ≡ fault) × o.wrote []
Outcome _ _ o = ⊥

-- A run over what was read of the files: how the work ends, and the status and the text of that end; the text was written, or a front of it where the sink failed.
abbrev pub Run : Option Form → (File → Option Text) → Status → Stream → Stream → Type 0
Run form reads s o e = (r : Result Bool Failure) × Outcome (task_of form reads) r o
    × (s ≡ (ending_of form r).0) × (e.wrote (ending_of form r).1 ⊎ e.failed (ending_of form r).1)

-- A run: what was read of the files under the names that the words give, and the run over that.
pub record IsRun (from : Source) (words : List Text) (s : Status) (out err : Stream) : Type 0 where
  pub reads : File → Option Text
  pub are_read : AreReads from (form_of words) reads
  pub ends : Run (form_of words) reads s out err

-- The files that a form names were read, and the answers written as far as the work got.
pub record Worked (from : Source) (form : Option Form) (result : Result Bool Failure) (out : Stream) : Type 0 where
  pub reads : File → Option Text
  pub are_read : AreReads from form reads
  pub works : Outcome (task_of form reads) result out

-- a text was written, or a front of it where the sink failed
abbrev pub Reports : Text → Stream → Type 0
Reports text err = err.wrote text ⊎ err.failed text

-- the text of the failure takes memory: it tells a cycle, or the name of a file and the place in it
abbrev pub TakesMemory : Failure → Type 0
TakesMemory (Cycle c) = Unit {0}
TakesMemory (failure.Fault (InFile which cause)) = Unit {0}
TakesMemory _ = ⊥

-- how a failure is explained: by its own text, or where that takes memory and can't be made by that for want of it
pub record Explained (form : Option Form) (reason : Failure) (s : Status) (err : Stream) : Type 0 where
  pub told : Failure
  pub is : (told ≡ reason) ⊎ ((told ≡ failure.Memory) × TakesMemory reason)
  pub status : s ≡ (ending_of form (Err told)).0
  pub says : Reports (ending_of form (Err told)).1 err
