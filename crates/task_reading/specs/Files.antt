-- What was read of the files, and what comes of it.
use Rattle.std.specs.Prelude.{◌≡◌, ◌⊎◌, ◌+◌, List, [], Option, Some, Result, Ok, Err, IsSomeAnd, MatchOption}
use Rattle.std.specs.Option.{option_map_or}
use Rattle.std.specs.Io.KnownBytes.{IsAtEnd, Keeps}
use Rattle.clap.specs.Walk.{Text}
use Rattle.io_edge.specs.Whole.{TakesAtMost}
use Rattle.net_names.specs.declared.limits.TheConstants.{MOST_LIST_BYTES}
use Rattle.task_reading.specs.Sources.{Source}
use Rattle.task_reading.specs.Words.{Form, name_by}
use Rattle.task_reading.specs.Jobs.{Job}
use Rattle.task_reading.specs.Asking.{asked}
use Rattle.task_reading.specs.declared.asking.Asked.{Asked}
use Rattle.std.specs.Result.{result_map_both}
use Rattle.task_reading.specs.declared.types.Cause.{Cause}
use Rattle.task_reading.specs.declared.types.Cause.TheVariants.{Unread}
use Rattle.task_reading.specs.declared.types.Fault.TheVariants.{InFile}
use Rattle.task_reading.specs.declared.types.File.TheVariants as file
use Rattle.task_reading.specs.declared.types.AskError.{AskError}
use Rattle.task_reading.specs.declared.types.AskError.TheVariants as error
use Rattle.task_reading.specs.declared.types.File.{File}
use Rattle.task_reading.specs.declared.types.Fault.{Fault}

-- A file was read whole, so that these are the bytes that are told of it; or a read of it failed.
abbrev pub IsRead : Option Text → Type 0 → Option Text → Type 0
IsRead held fails read = MatchOption read fails (λ bytes. Keeps held (Some bytes))

-- A file was read under its name. One that isn't named counts as empty, and no read of it fails.
abbrev pub IsReadAs : Source → Option Text → Option Text → Type 0
IsReadAs from name = IsRead (option_map_or from.holds name (Some [])) (IsSomeAnd name from.fails)

-- Each file was read under the name that the form gives it, so that these are the bytes that are told of it, or a read of it failed. One that isn't named counts as empty, and no read of it fails.
abbrev pub AreReads : Source → Option Form → (File → Option Text) → Type 0
AreReads from form reads = (file : File) → let name = name_by form file in MatchOption (reads file)
    (IsSomeAnd name from.fails) (λ b. Keeps (option_map_or from.holds name (Some [])) (Some b))

-- the error is the value's fault, unless memory ran out
abbrev pub IsFaultOf : {A : Type 0} → AskError → Result A Fault → Type 0
IsFaultOf error.Memory value = Unit {0}
IsFaultOf (error.Fault fault) value = value ≡ Err fault

-- the error is the value's fault of this file, unless memory ran out
abbrev pub IsFaultIn : {A E : Type 0} → File → (E → Cause) → AskError → Result A E → Type 0
IsFaultIn which as_cause error value = IsFaultOf error (result_map_both (λ x. x) (λ e. InFile which (as_cause e)) value)

-- the jobs were found in the bytes of the option's file, or the error says why there are none
abbrev pub FindsJobs : Result (List Job) AskError → Result (List Job) Cause → Type 0
FindsJobs (Ok jobs) value = value ≡ Ok jobs
FindsJobs (Err e) value = IsFaultIn file.Asked (λ c. c) e value

-- what was found is the value, or the error says why there is none
abbrev pub Finds : {X A : Type 0} → (X → A) → Result X AskError → Result A Fault → Type 0
Finds view (Ok x) value = value ≡ Ok (view x)
Finds view (Err e) value = IsFaultOf e value

-- One file was read, and what was found is the value of what was read.
pub record ReadsTo {X A : Type 0} (held : Option Text) (fails : Type 0) (view : X → A) (result : Result X AskError) (value : (File → Option Text) → Result A Fault) : Type 0 where
  pub read : Option Text
  pub is_read : IsRead held fails read
  pub finds : Finds view result (value (λ _. read))

-- One file was read under its name, if it has one, and what was found is the value of what was read.
abbrev pub ReadsAs : {X A : Type 0} → Source → Option Text → (X → A) → Result X AskError → ((File → Option Text) → Result A Fault) → Type 0
ReadsAs from name view result value = ReadsTo (option_map_or from.holds name (Some [])) (IsSomeAnd name from.fails) view result value

-- What was taken of the relationship file: all of it where it gave links, and one byte past its limit at most. Where `begin` failed, nothing is begun.
abbrev pub IsTaken : {X : Type 0} → Option Text → Option Text → Result X AskError → Type 0
IsTaken held left (Ok links) = IsAtEnd left × TakesAtMost MOST_LIST_BYTES held left
IsTaken held left (Err e) = ((e ≡ error.Fault (InFile file.Relations Unread)) × IsAtEnd left)
    ⊎ TakesAtMost (MOST_LIST_BYTES + 1) held left

-- The files were read under the names of the form, and what was found is what they ask for.
pub record Prepares (from : Source) (form : Option Form) (result : Result Asked AskError) : Type 0 where
  pub reads : File → Option Text
  pub are_read : AreReads from form reads
  pub finds : Finds (λ (found : Asked). found) result (asked form reads)
