-- How a run ends where the work stopped.
use Rattle.std.proofs.Common.{◌≡◌, ◌<◌, ◌≤◌, inl, inr, ℕ, nat_lt, Bool, List, [], Option, Some, option_map, Result, Ok, Err, None, refl, sym, ap, subst, ◌∙◌, if◌then◌else◌, lt-ltb, le-ltb}
use Rattle.as_graph.specs.Topology.{as_count, relation}
use Rattle.cycle_check.specs.Cycles.{IsCycleFromLowest}
use Rattle.scenario_text.specs.Walks.{◌>>=◌}
use Rattle.sim_core.specs.Loaded.{world_of}
use Rattle.sim_core.specs.World.{World, HasCycle, topology}
use Rattle.asprop_run.specs.Streams.{Stream}
use Rattle.task_reading.specs.Sources.{Source}
use Rattle.asprop_run.specs.Written.{Answering}
use Rattle.task_reading.specs.Files.{Prepares}
use Rattle.task_reading.specs.Words.{Form, form_of}
use Rattle.asprop_run.specs.Task.{HasAnswers, Task, outside, task_of}
use Rattle.task_reading.specs.declared.asking.Asked.{Asked}
use Rattle.task_reading.specs.declared.types.AskError.{AskError}
use Rattle.sim_core.specs.Loading.{IsLoadRefusal}
use Rattle.sim_core.specs.declared.errors.LoadError.{LoadError}
use Rattle.sim_core.specs.declared.errors.LoadError.TheVariants as load_error
use Rattle.task_reading.specs.declared.types.AskError.TheVariants as ask_error
use Rattle.asprop_run.specs.Failures.{unasked, unloaded}
use Rattle.asprop_run.specs.Texts.{ending_of}
use Rattle.asprop_run.specs.Runs.{Outcome, Explained, Reports, IsRun, TakesMemory, Worked}
use Rattle.asprop_run.specs.declared.types.Failure.{Failure}
use Rattle.asprop_run.specs.declared.types.Failure.TheVariants as failure
use Rattle.task_reading.specs.declared.types.Status.{Status}
use Rattle.task_reading.specs.declared.types.Status.TheVariants as status
use Rattle.task_reading.specs.declared.types.Cause.TheVariants as cause
use Rattle.task_reading.specs.declared.types.File.TheVariants as file
use Rattle.task_reading.specs.declared.types.Fault.{Fault}
use Rattle.task_reading.specs.declared.types.Fault.TheVariants as fault
use Rattle.task_reading.proofs.Preparing.{none_read}

-- nothing was written, or whole answers, where memory ran out
by_memory : (task : Result Task Fault) (reason : Failure) (out : Stream) → TakesMemory reason → Outcome task (Err reason) out → Outcome task (Err failure.Memory) out
by_memory (Ok task) failure.Memory out takes w = w
by_memory (Ok task) failure.Write out takes w = absurd takes
by_memory (Ok task) (failure.Cycle cycle) out takes w = inl w.1
by_memory (Ok task) (failure.Fault f) out takes w = inl w.2
by_memory (Err f) failure.Memory out takes w = w
by_memory (Err f) failure.Write out takes w = absurd w
by_memory (Err f) (failure.Cycle cycle) out takes w = absurd w
by_memory (Err f) (failure.Fault found) out takes w = w.1

module _ {from : Source} {words : List (List ℕ)} {out err : Stream} where
  -- a failure that was explained
  pub explained : (reason : Failure) (s : Status) → Worked from (form_of words) (Err reason) out → Explained (form_of words) reason s err → IsRun from words s out err
  explained reason s w h =
      let works : Outcome (task_of (form_of words) w.reads) (Err h.told) out = elim h.is [
        | inl own ↦ subst (λ (r : Failure). Outcome (task_of (form_of words) w.reads) (Err r) out) (sym own) w.works
        | inr short ↦ subst (λ (r : Failure). Outcome (task_of (form_of words) w.reads) (Err r) out) (sym short.0) (by_memory (task_of (form_of words) w.reads) reason out short.1 w.works)
      ] in
      record { reads = w.reads; are_read = w.are_read; ends = (Err h.told, works, h.status, h.says) }

  -- all answers were written
  pub all_written : (refused : Bool) (s : Status) → s ≡ (ending_of (form_of words) (Ok refused)).0 → Worked from (form_of words) (Ok refused) out → err.wrote [] → IsRun from words s out err
  all_written refused s is w nil = record { reads = w.reads; are_read = w.are_read; ends = (Ok refused, w.works, is, inl nil) }

-- nothing was written where memory ran out
idle : (task : Result Task Fault) (out : Stream) → out.wrote [] → Outcome task (Err failure.Memory) out
idle (Ok task) out nil = inl nil
idle (Err f) out nil = nil

-- memory ran out before the words were read
pub unformed : {from : Source} {words : List (List ℕ)} {out err : Stream} (s : Status) → Explained None failure.Memory s err → out.wrote [] → IsRun from words s out err
unformed {from} {words} {out} {err} s h nil =
    let r = none_read from (form_of words) in
    let told : h.told ≡ failure.Memory = elim h.is [ inl own ↦ own | inr short ↦ short.0 ] in
    record {
      reads = r.0;
      are_read = r.1;
      ends = (
        Err failure.Memory,
        idle (task_of (form_of words) r.0) out nil,
        h.status ∙ ap (λ (t : Failure). (ending_of None (Err t)).0) told,
        subst (λ (t : Failure). Reports (ending_of None (Err t)).1 err) told h.says,
      );
    }

-- the files were read as far as memory held them, and it ran out before an answer
no_memory : {from : Source} {form : Option Form} {result : Result Asked AskError} {out : Stream} → Prepares from form result → out.wrote [] → Worked from form (Err failure.Memory) out
no_memory {form} {out} p nil = record { reads = p.reads; are_read = p.are_read; works = idle (task_of form p.reads) out nil }

-- the task in the world of what was asked for
abbrev pub task_in : Asked → Task
task_in x = record { world = world_of x.links x.vrps x.scenario; jobs = x.jobs }

-- the task of what was asked for, if its world isn't too large
abbrev pub within_limits : Asked → Result Task Fault
within_limits x = if nat_lt 150000 (as_count (topology (task_in x).world)) then Err fault.TooManyAses else Ok (task_in x)

few_ases : (x : Asked) → as_count (topology (task_in x).world) ≤ 150000 → within_limits x ≡ Ok (task_in x)
few_ases x few = rw (le-ltb 150000 (as_count (topology (task_in x).world)) few) refl

many_ases : (x : Asked) → 150000 < as_count (topology (task_in x).world) → within_limits x ≡ Err fault.TooManyAses
many_ases x many = rw (lt-ltb 150000 (as_count (topology (task_in x).world)) many) refl

-- what was written of the answers of a task that has some
pub answering : (task : Task) (result : Result Bool Failure) (out : Stream) → HasAnswers task → Answering task result out → Outcome (Ok task) result out
answering task (Ok refused) out has h = (has, h)
answering task (Err failure.Memory) out has h = inr (has, h)
answering task (Err failure.Write) out has h = (has, h)
answering task (Err (failure.Cycle cycle)) out has h = absurd h
answering task (Err (failure.Fault f)) out has h = absurd h

-- a line names what isn't in the world
pub foreign : (task : Task) (line : ℕ) (f : Fault) (out : Stream) → (HasCycle task.world → ⊥) → outside task.world task.jobs ≡ Some line
    → f ≡ fault.InFile file.Asked (cause.NotInWorld line) → out.wrote [] → Outcome (Ok task) (Err (failure.Fault f)) out
foreign task line f out none names is nil = (none, ap (option_map (λ n. fault.InFile file.Asked (cause.NotInWorld n))) names ∙ ap Some (sym is), nil)

module _ {from : Source} {form : Option Form} {out : Stream} where
  -- the task is the one that was asked for
  on_task : (x : Asked) (p : Prepares from form (Ok x)) (result : Result Bool Failure) → as_count (topology (task_in x).world) ≤ 150000 → Outcome (Ok (task_in x)) result out → Worked from form result out
  on_task x p result few w = record {
    reads = p.reads;
    are_read = p.are_read;
    works = subst (λ (t : Result Task Fault). Outcome t result out) (sym (ap (λ (t : Result Asked Fault). t >>= within_limits) p.finds ∙ few_ases x few)) w;
  }

  -- the work over the task in the world that was loaded ended so
  pub worked : (x : Asked) (w : World) (result : Result Bool Failure) → Prepares from form (Ok x) → w ≡ (task_in x).world → as_count (topology w) ≤ 150000
      → Outcome (Ok (record { world = w; jobs = x.jobs })) result out → Worked from form result out
  worked x w result p is few h =
      on_task x p result (subst (λ (w : World). as_count (topology w) ≤ 150000) is few)
      (subst (λ (w : World). Outcome (Ok (record { world = w; jobs = x.jobs })) result out) is h)

  -- the world has a provider cycle
  cyclic : (x : Asked) (cycle : List ℕ) → Prepares from form (Ok x) → (as_count (topology (task_in x).world) ≤ 150000) × IsCycleFromLowest (relation (topology (task_in x).world)) cycle → out.wrote []
      → Worked from form (Err (failure.Cycle cycle)) out
  cyclic x cycle p h nil = on_task x p (Err (failure.Cycle cycle)) h.0 (h.1, nil)

  -- the world is too large
  too_many : (x : Asked) → Prepares from form (Ok x) → 150000 < as_count (topology (task_in x).world) → out.wrote [] → Worked from form (Err (failure.Fault fault.TooManyAses)) out
  too_many x p many nil = record {
    reads = p.reads;
    are_read = p.are_read;
    works = subst (λ (t : Result Task Fault). Outcome t (Err (failure.Fault fault.TooManyAses)) out) (sym (ap (λ (t : Result Asked Fault). t >>= within_limits) p.finds ∙ many_ases x many)) (refl, nil);
  }

  -- nothing was asked for
  pub not_asked : (e : AskError) → Prepares from form (Err e) → out.wrote [] → Worked from form (Err (unasked e)) out
  not_asked ask_error.Memory p nil = no_memory p nil
  not_asked (ask_error.Fault f) p nil = record {
    reads = p.reads;
    are_read = p.are_read;
    works = subst (λ (t : Result Task Fault). Outcome t (Err (failure.Fault f)) out) (sym (ap (λ (t : Result Asked Fault). t >>= within_limits) p.finds)) (refl, nil);
  }

  -- no world was loaded
  pub not_loaded : (x : Asked) (e : LoadError) → Prepares from form (Ok x) → IsLoadRefusal (task_in x).world e → out.wrote [] → Worked from form (Err (unloaded e)) out
  not_loaded x load_error.Memory p refused nil = no_memory p nil
  not_loaded x load_error.TooManyAses p many nil = too_many x p many nil
  not_loaded x (load_error.ProviderCycle cycle) p h nil = cyclic x cycle p h nil

-- a failure is explained by its own text
pub own : {form : Option Form} {s : Status} {err : Stream} (reason : Failure) → s ≡ (ending_of form (Err reason)).0 → Reports (ending_of form (Err reason)).1 err → Explained form reason s err
own reason is says = record { told = reason; is = inl refl; status = is; says = says }

-- or by the text for want of memory
pub short : {form : Option Form} {err : Stream} (reason : Failure) → TakesMemory reason → Reports (ending_of form (Err failure.Memory)).1 err → Explained form reason status.NoMemory err
short reason takes says = record { told = failure.Memory; is = inr (refl, takes); status = refl; says = says }
