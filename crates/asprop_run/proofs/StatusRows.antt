-- Which statuses the words, the reads and the writes give.
use Rattle.std.proofs.Common.{◌≡◌, ◌⊎◌, inl, inr, ℕ, Bool, true, false, List, Option, Some, None, option_map, Result, Ok, Err, IsSomeAnd, refl, ap, sym, subst, ◌∙◌}
use Rattle.asprop_run.specs.Streams.{Stream}
use Rattle.task_reading.specs.Sources.{Source}
use Rattle.asprop_run.specs.Task.{Task, outside, task_of}
use Rattle.task_reading.specs.Asking.{asked}
use Rattle.task_reading.specs.declared.asking.Asked.{Asked}
use Rattle.asprop_run.specs.Texts.{ending_of}
use Rattle.task_reading.specs.Words.{Form, form_of, name_by}
use Rattle.task_reading.specs.Files.{IsReadAs}
use Rattle.asprop_run.specs.Runs.{Outcome, IsRun}
use Rattle.task_reading.specs.declared.types.Cause.TheVariants as cause
use Rattle.task_reading.specs.declared.types.File.{File}
use Rattle.task_reading.specs.declared.types.File.TheVariants as file
use Rattle.task_reading.specs.declared.types.Fault.{Fault}
use Rattle.task_reading.specs.declared.types.Fault.TheVariants as fault
use Rattle.asprop_run.specs.declared.types.Failure.{Failure}
use Rattle.asprop_run.specs.declared.types.Failure.TheVariants as failure
use Rattle.task_reading.specs.declared.types.Status.{Status}
use Rattle.task_reading.specs.declared.types.Status.TheVariants as status
use Rattle.task_reading.proofs.ReadLemmas.{Reads}
use Rattle.task_reading.proofs.Faults.{Stopped, no_form, unread, by_value, bind_err, chosen_err, of_asked, other_line, status_of, too_many}
use Rattle.asprop_run.proofs.Ending.{task_in, within_limits}

of_limits : (form : Option Form) (reads : Reads) (parts : Asked) (e : Fault) → within_limits parts ≡ Err e → Stopped form reads e
of_limits form reads parts e h = subst (Stopped form reads) (chosen_err _ _ e (task_in parts) h) (by_value fault.TooManyAses (too_many form))

-- each fault of a task has its reason
of_task : (form : Option Form) (reads : Reads) (e : Fault) → task_of form reads ≡ Err e → Stopped form reads e
of_task form reads e h =
    elim (bind_err (asked form reads) within_limits e h) [
      | inl early ↦ of_asked form reads e early
      | inr late ↦ of_limits form reads late.0 e late.2
    ]

-- the fault of a line that names what isn't in the world is neither one of the words nor a failed read
of_line : (form : Option Form) (reads : Reads) (line : Option ℕ) (f : Fault) → option_map (λ n. fault.InFile file.Asked (cause.NotInWorld n)) line ≡ Some f → Stopped form reads f
of_line form reads None f h = cc
of_line form reads (Some line) f h = let is : fault.InFile file.Asked (cause.NotInWorld line) ≡ f = cc in subst (Stopped form reads) is (by_value _ (other_line form file.Asked line))

-- the work stops by a fault only for the reason of that fault
fault_by : (form : Option Form) (reads : Reads) (task : Result Task Fault) (f : Fault) (out : Stream) → task_of form reads ≡ task → Outcome task (Err (failure.Fault f)) out → Stopped form reads f
fault_by form reads (Ok task) f out is w = of_line form reads (outside task.world task.jobs) f w.1
fault_by form reads (Err e) f out is w = subst (Stopped form reads) (sym w.0) (of_task form reads e is)

usage_stop : (form : Option Form) (reads : Reads) (f : Fault) → Stopped form reads f → status.Usage ≡ status_of form f → form ≡ None
usage_stop form reads _ (no_form is) h = is
usage_stop form reads _ (unread which is) h = cc
usage_stop form reads _ (by_value f is) h = absurd (is.usage h)

usage_by : (form : Option Form) (reads : Reads) (result : Result Bool Failure) (out : Stream) → Outcome (task_of form reads) result out → status.Usage ≡ (ending_of form result).0 → form ≡ None
usage_by form reads (Ok true) out w h = cc
usage_by form reads (Ok false) out w h = cc
usage_by form reads (Err failure.Memory) out w h = cc
usage_by form reads (Err failure.Write) out w h = cc
usage_by form reads (Err (failure.Cycle cycle)) out w h = cc
usage_by form reads (Err (failure.Fault f)) out w h = usage_stop form reads f (fault_by form reads (task_of form reads) f out refl w) h

usage_there : (form : Option Form) (result : Result Bool Failure) (out : Stream) → Outcome (Err fault.Usage) result out → ((ending_of form result).0 ≡ status.Usage) ⊎ ((ending_of form result).0 ≡ status.NoMemory)
usage_there form (Ok refused) out w = absurd w
usage_there form (Err failure.Memory) out w = inr refl
usage_there form (Err failure.Write) out w = absurd w
usage_there form (Err (failure.Cycle cycle)) out w = absurd w
usage_there form (Err (failure.Fault f)) out w = inl (ap (status_of form) w.0)

read_stop : (form : Option Form) (reads : Reads) (f : Fault) → Stopped form reads f → status.ReadFault ≡ status_of form f → (which : File) × (reads which ≡ None)
read_stop form reads _ (no_form is) h = cc
read_stop form reads _ (unread which is) h = (which, is)
read_stop form reads _ (by_value f is) h = absurd (is.read h)

read_by : (form : Option Form) (reads : Reads) (result : Result Bool Failure) (out : Stream) → Outcome (task_of form reads) result out → status.ReadFault ≡ (ending_of form result).0 → (which : File) × (reads which ≡ None)
read_by form reads (Ok true) out w h = cc
read_by form reads (Ok false) out w h = cc
read_by form reads (Err failure.Memory) out w h = cc
read_by form reads (Err failure.Write) out w h = cc
read_by form reads (Err (failure.Cycle cycle)) out w h = cc
read_by form reads (Err (failure.Fault f)) out w h = read_stop form reads f (fault_by form reads (task_of form reads) f out refl w) h

write_stop : (form : Option Form) (reads : Reads) (f : Fault) → Stopped form reads f → status.WriteFault ≡ status_of form f → ⊥
write_stop form reads _ (no_form is) h = cc
write_stop form reads _ (unread which is) h = cc
write_stop form reads _ (by_value f is) h = is.write h

broken : (task : Result Task Fault) (out : Stream) → Outcome task (Err failure.Write) out → (text : List ℕ) × out.failed text
broken (Ok task) out w = (_, w.1.2.2.2)
broken (Err f) out w = absurd w

write_by : (form : Option Form) (reads : Reads) (result : Result Bool Failure) (out : Stream) → Outcome (task_of form reads) result out → status.WriteFault ≡ (ending_of form result).0 → (text : List ℕ) × out.failed text
write_by form reads (Ok true) out w h = cc
write_by form reads (Ok false) out w h = cc
write_by form reads (Err failure.Memory) out w h = cc
write_by form reads (Err failure.Write) out w h = broken (task_of form reads) out w
write_by form reads (Err (failure.Cycle cycle)) out w h = cc
write_by form reads (Err (failure.Fault f)) out w h = absurd (write_stop form reads f (fault_by form reads (task_of form reads) f out refl w) h)

module _ {from : Source} {words : List (List ℕ)} {s : Status} {out err : Stream} where
  pub usage_row : IsRun from words s out err → form_of words ≡ None → (s ≡ status.Usage) ⊎ (s ≡ status.NoMemory)
  usage_row r none =
      let P : Status → Type 0 = λ s. (s ≡ status.Usage) ⊎ (s ≡ status.NoMemory) in
      let task : task_of (form_of words) r.reads ≡ Err fault.Usage = ap (λ form. task_of form r.reads) none in
      subst P (sym r.ends.2) (usage_there (form_of words) r.ends.0 out (subst (λ (t : Result Task Fault). Outcome t r.ends.0 out) task r.ends.1))

  pub usage_only : IsRun from words s out err → s ≡ status.Usage → form_of words ≡ None
  usage_only r is = usage_by (form_of words) r.reads r.ends.0 out r.ends.1 (sym is ∙ r.ends.2)

  pub read_row : IsRun from words s out err → s ≡ status.ReadFault → (file : File) × IsSomeAnd (name_by (form_of words) file) from.fails
  read_row r is =
      let none = read_by (form_of words) r.reads r.ends.0 out r.ends.1 (sym is ∙ r.ends.2) in
      (none.0, subst (λ (read : Option (List ℕ)). IsReadAs from (name_by (form_of words) none.0) read) none.1 (r.are_read none.0))

  pub write_row : IsRun from words s out err → s ≡ status.WriteFault → (text : List ℕ) × out.failed text
  write_row r is = write_by (form_of words) r.reads r.ends.0 out r.ends.1 (sym is ∙ r.ends.2)
