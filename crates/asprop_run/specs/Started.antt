-- How the program goes from its arguments to a run, and with which number it ends.
use Rattle.std.specs.Prelude.{ℕ, ◌≡◌, ◌⊎◌, List, [], map, string_bytes, ⊤, None, Result, Ok, Err}
use Rattle.std.specs.Iterator.{DrainsIf}
use Rattle.std.specs.IoError.{error_kind}
use Rattle.std.specs.Vec.Iter.{into_iter_steps}
use Rattle.std.specs.declared.alloc.Global.{Global}
use Rattle.std.specs.declared.io.Error.{Error}
use Rattle.std.specs.declared.io.ErrorKind.{ErrorKind}
use Rattle.std.specs.declared.io.ErrorKind.TheVariants.{OutOfMemory}
use Rattle.std.specs.declared.string.String.{String}
use Rattle.std.specs.declared.vec.IntoIter.{IntoIter}
use Rattle.std.specs.declared.vec.Vec.{Vec}
use Rattle.asprop_run.specs.Streams.{Stream}
use Rattle.task_reading.specs.Sources.{Source}
use Rattle.asprop_run.specs.Runs.{Explained, IsRun}
use Rattle.task_reading.specs.Texts.{number_of}
use Rattle.task_reading.specs.declared.types.Fault.TheVariants as fault
use Rattle.task_reading.specs.declared.types.Status.{Status}
use Rattle.asprop_run.specs.declared.types.Failure.{Failure}
use Rattle.asprop_run.specs.declared.types.Failure.TheVariants as failure

-- The arguments, or why they can't be had.
abbrev pub Args : Type 0
Args = Result (IntoIter (String Global) Global) Error

-- These are all that the arguments give, one after the other.
abbrev pub Gives : IntoIter (String Global) Global → List (String Global) → Type 0
Gives args words = DrainsIf into_iter_steps ⊤ args words

-- Memory ran out, or else an argument is no text, and such words have no form.
abbrev pub reason_by : ErrorKind → Failure
reason_by OutOfMemory = failure.Memory
reason_by _ = failure.Fault fault.Usage

-- why the arguments give no words
abbrev pub reason_of : Error → Failure
reason_of error = reason_by (error_kind error)

-- The words are those that the arguments give, or the failure says why there are none.
abbrev pub IsWordsOf : Args → Result (Vec (String Global) Global) Failure → Type 0
IsWordsOf (Ok args) (Ok words) = Gives args words.items
IsWordsOf (Ok args) (Err reason) = reason ≡ failure.Memory
IsWordsOf (Err error) (Ok words) = ⊥
IsWordsOf (Err error) (Err reason) = reason ≡ reason_of error

-- Without words nothing is written to standard output, and standard error has the reason.
abbrev pub NoWords : Failure → Status → Stream → Stream → Type 0
NoWords reason s out err = Explained None reason s err × out.wrote []

-- the run over all words that the arguments give, or what is said where there are none
abbrev pub Starts : Source → Args → Status → Stream → Stream → Type 0
Starts from (Ok args) s out err =
    ((words : List (String Global)) × Gives args words × IsRun from (map string_bytes words) s out err)
    ⊎ NoWords failure.Memory s out err
Starts from (Err error) s out err = NoWords (reason_of error) s out err

-- The program ran over its arguments, and ends with the number of the run's status.
pub record Started (from : Source) (args : Args) (number : ℕ) (out err : Stream) : Type 0 where
  pub status : Status
  pub starts : Starts from args status out err
  pub ends : number ≡ number_of status
