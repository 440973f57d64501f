-- What a run says where the files are told.
use Rattle.std.proofs.Common.{◌≡◌, ◌⊎◌, inl, inr, ℕ, Bool, true, false, List, [], Option, Some, None, option_map, Result, Ok, Err, IsSomeAnd, sym, ap, subst, refl}
use Rattle.std.specs.Option.{option_map_or}
use Rattle.asprop_run.specs.Streams.{Stream}
use Rattle.task_reading.specs.Sources.{Source}
use Rattle.asprop_run.specs.Task.{HasAnswers, Task, outside}
use Rattle.asprop_run.specs.Texts.{ending_of}
use Rattle.task_reading.specs.Words.{Form, form_of, name_by}
use Rattle.task_reading.specs.Files.{IsRead}
use Rattle.asprop_run.specs.Runs.{Outcome, Run, IsRun}
use Rattle.asprop_run.specs.Statuses.{RunsAsTold, IsComplete}
use Rattle.task_reading.specs.declared.types.Cause.TheVariants as cause
use Rattle.task_reading.specs.declared.types.File.{File}
use Rattle.task_reading.specs.declared.types.File.TheVariants as file
use Rattle.task_reading.specs.declared.types.Fault.{Fault}
use Rattle.task_reading.specs.declared.types.Fault.TheVariants as fault
use Rattle.asprop_run.specs.declared.types.Failure.{Failure}
use Rattle.asprop_run.specs.declared.types.Failure.TheVariants as failure
use Rattle.task_reading.specs.declared.types.Status.{Status}
use Rattle.task_reading.specs.declared.types.Status.TheVariants as status
use Rattle.task_reading.proofs.ReadLemmas.{Reads}

-- what was read of a file is what is told of it
read_is : (held : Option (List ℕ)) (fails : Type 0) (read : Option (List ℕ)) (bytes : List ℕ) → IsRead held fails read → held ≡ Some bytes → (fails → ⊥) → read ≡ Some bytes
read_is held fails None bytes h told ok = absurd (ok h)
read_is held fails (Some read) bytes h told ok = let P : Option (List ℕ) → Type 0 = λ held. IsRead held fails (Some read) in ap Some (subst P told h)

-- a task with answers has no line that names what isn't in its world
not_outside : (line : Option ℕ) (f : Fault) → line ≡ None → option_map (λ n. fault.InFile file.Asked (cause.NotInWorld n)) line ≡ Some f → ⊥
not_outside None f none h = cc
not_outside (Some line) f none h = cc

-- the status of a run over a task with answers, where no write fails
succeeds : (form : Option Form) (task : Task) (result : Result Bool Failure) (out : Stream) → ((text : List ℕ) → out.failed text → ⊥) → HasAnswers task → Outcome (Ok task) result out
    → ((ending_of form result).0 ≡ status.Done) ⊎ (((ending_of form result).0 ≡ status.SomeRefused) ⊎ ((ending_of form result).0 ≡ status.NoMemory))
succeeds form task (Ok false) out quiet has w = inl refl
succeeds form task (Ok true) out quiet has w = inr (inl refl)
succeeds form task (Err failure.Memory) out quiet has w = inr (inr refl)
succeeds form task (Err failure.Write) out quiet has w = absurd (quiet _ w.1.2.2.2)
succeeds form task (Err (failure.Cycle cycle)) out quiet has w = absurd (has.0 (cycle, w.0.cycle))
succeeds form task (Err (failure.Fault f)) out quiet has w = absurd (not_outside (outside task.world task.jobs) f has.1 w.1)

module _ {from : Source} {words : List (List ℕ)} {s : Status} {out err : Stream} where
  pub as_told : IsRun from words s out err → RunsAsTold from words s out err
  as_told r files told =
      let same : (file : File) → r.reads file ≡ Some (files file) = λ file.
      read_is (option_map_or from.holds (name_by (form_of words) file) (Some [])) (IsSomeAnd (name_by (form_of words) file) from.fails) (r.reads file) (files file) (r.are_read file) (told file).0 (told file).1 in
      let all : r.reads ≡ (λ file. Some (files file)) = λ i file. same file i in
      let P : Reads → Type 0 = λ reads. Run (form_of words) reads s out err in
      subst P all r.ends

  pub complete : IsRun from words s out err → IsComplete from words s out err
  complete r files task told quiet is has =
      let e = as_told r files told in
      let P : Status → Type 0 = λ s. (s ≡ status.Done) ⊎ ((s ≡ status.SomeRefused) ⊎ (s ≡ status.NoMemory)) in
      subst P (sym e.2) (succeeds (form_of words) task e.0 out quiet has (subst (λ (t : Result Task Fault). Outcome t e.0 out) is e.1))
