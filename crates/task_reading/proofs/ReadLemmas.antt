-- What may have been read of a file.
use Rattle.std.proofs.Common.{◌≡◌, ◌<◌, ℕ, Bool, true, false, cond, nat_lt, ◌-◌, List, [], length, Option, Some, None, Result, Ok, Err, IfSome, IsSomeAnd, refl, sym, ap, ◌∙◌, subst, arith, lt-ltb, le-ltb, ◌+◌, ◌≤◌}
use Rattle.std.proofs.lemmas.List.{length-replicate}
use Rattle.std.proofs.Common.{replicate, drop}
use Rattle.std.specs.Io.KnownBytes.{Keeps}
use Rattle.std.specs.Option.{option_map_or}
use Rattle.std.specs.Result.{result_map_both}
use Rattle.io_edge.specs.Faults.{HasRisen, KeepsNames}
use Rattle.scenario_text.specs.Walks.{◌>>=◌}
use Rattle.task_reading.specs.Sources.{Source, source_of}
use Rattle.task_reading.specs.Files.{FindsJobs, IsRead, IsReadAs, IsFaultOf, Finds, ReadsTo}
use Rattle.net_names.specs.Links.{LinkMap}
use Rattle.caida_reader.specs.Value.{links_of}
use Rattle.roa_table.specs.Files.{payloads_in}
use Rattle.roa_table.specs.Sets.{Payloads}
use Rattle.scenario_text.specs.Readings.{scenario_of_bytes}
use Rattle.scenario_text.specs.Scenarios.{ScenarioValue, nothing}
use Rattle.task_reading.specs.Asking.{jobs_in, most_bytes, read_as}
use Rattle.task_reading.specs.declared.types.File.TheVariants as file
use Rattle.task_reading.specs.declared.types.File.{File}
use Rattle.task_reading.specs.declared.types.Fault.{Fault}
use Rattle.task_reading.specs.declared.types.AskError.{AskError}
use Rattle.task_reading.specs.declared.types.AskError.TheVariants as error
use Rattle.task_reading.specs.declared.types.Fault.TheVariants as fault
use Rattle.task_reading.specs.Jobs.{Job}
use Rattle.task_reading.specs.declared.words.FileOption.{FileOption}
use Rattle.task_reading.specs.declared.types.Cause.{Cause}
use Rattle.task_reading.specs.declared.types.Cause.TheVariants as cause
use Rattle.sweep.proofs.Written.{rose_earlier}

-- what was read of each file
abbrev pub Reads : Type 0
Reads = File → Option (List ℕ)

-- the value that was read, or its fault as one of the file
abbrev pub or_fault : {A E : Type 0} → File → (E → Cause) → Result A E → Result A Fault
or_fault which as_cause value = result_map_both (λ x. x) (λ e. fault.InFile which (as_cause e)) value

-- the bytes of a file that was read and has no more than so many
abbrev pub bytes_of : File → ℕ → Option (List ℕ) → Result (List ℕ) Fault
bytes_of which most read = read_as which most (λ (c : Cause). c) Ok (λ _. read)

chosen_then : {A B : Type 0} (long : Bool) (e : Fault) (x : A) (f : A → Result B Fault) → cond long (Err e) (f x) ≡ (cond long (Err e) (Ok x) >>= f)
chosen_then true e x f = refl
chosen_then false e x f = refl

-- the value of a file is that of its bytes
pub by_bytes : {A E : Type 0} (which : File) (most : ℕ) (as_cause : E → Cause) (value : List ℕ → Result A E) (read : Option (List ℕ)) → read_as which most as_cause value (λ _. read) ≡ (bytes_of which most read >>= λ bytes. or_fault which as_cause (value bytes))
by_bytes which most as_cause value None = refl
by_bytes which most as_cause value (Some bytes) = chosen_then (nat_lt most (length bytes)) (fault.InFile which (cause.TooLong most)) bytes (λ bytes. or_fault which as_cause (value bytes))

-- the links of what was read
abbrev pub relations : Option (List ℕ) → Result LinkMap Fault
relations read = read_as file.Relations 268435456 cause.Relation links_of (λ _. read)

-- the payloads of what was read
abbrev pub payloads_of : Option (List ℕ) → Result Payloads Fault
payloads_of read = read_as file.Payloads 268435456 cause.Payload payloads_in (λ _. read)

-- the scenario of what was read of the file of this name
abbrev pub scenario_by : Option (List ℕ) → Option (List ℕ) → Result ScenarioValue Fault
scenario_by name read = option_map_or (λ _. read_as file.Scenario 16777216 cause.Scenario scenario_of_bytes (λ _. read)) name (Ok nothing)

-- what is asked by what was read of the option's file
abbrev pub jobs_by : FileOption → Option (List ℕ) → Result (List Job) Fault
jobs_by option read = read_as file.Asked (most_bytes option) (λ c. c) (jobs_in option) (λ _. read)

-- something was read of each file
some_read : (held : Option (List ℕ)) (fails : Type 0) → (read : Option (List ℕ)) × IsRead held fails read
some_read None fails = (Some [], tt)
some_read (Some bytes) fails = (Some bytes, refl)

pub some_read_as : (from : Source) (name : Option (List ℕ)) → (read : Option (List ℕ)) × IsReadAs from name read
some_read_as from name = some_read (option_map_or from.holds name (Some [])) (IsSomeAnd name from.fails)

-- nothing is said of the file where memory ran out
pub no_room : {X A : Type 0} {held : Option (List ℕ)} {fails : Type 0} {view : X → A} {value : Reads → Result A Fault} → ReadsTo held fails view (Err error.Memory) value
no_room {X} {A} {held} {fails} {view} {value} = let r = some_read held fails in record { read = r.0; is_read = r.1; finds = tt }

pub too_long : (which : File) (most : ℕ) (bytes : List ℕ) → most < length bytes → bytes_of which most (Some bytes) ≡ Err (fault.InFile which (cause.TooLong most))
too_long which most bytes h = rw (lt-ltb most (length bytes) h) refl

-- a file within its limit
pub whole : (which : File) (most : ℕ) (bytes : List ℕ) → length bytes ≤ most → bytes_of which most (Some bytes) ≡ Ok bytes
whole which most bytes h = rw (le-ltb most (length bytes) h) refl

-- the file was read whole
pub read_whole : (which : File) (most : ℕ) (held : Option (List ℕ)) (fails : Type 0) (X : Type 0) (view : X → List ℕ) (x : X) → (length (view x) ≤ most) × Keeps held (Some (view x)) → ReadsTo held fails view (Ok x) (λ reads. bytes_of which most (reads which))
read_whole which most held fails X view x h = record { read = Some (view x); is_read = h.1; finds = whole which most (view x) h.0 }

-- a read of the file failed
pub read_failed : (which : File) (most : ℕ) (held : Option (List ℕ)) (fails : Type 0) (X : Type 0) (view : X → List ℕ) → fails → ReadsTo held fails view (Err (error.Fault (fault.InFile which cause.Unread))) (λ reads. bytes_of which most (reads which))
read_failed which most held fails X view h = record { read = None; is_read = h; finds = refl }

-- the file is longer than it may be
pub read_long : (which : File) (most : ℕ) (held : Option (List ℕ)) (fails : Type 0) (X : Type 0) (view : X → List ℕ) → IfSome held (λ file. most < length file) → ReadsTo held fails view (Err (error.Fault (fault.InFile which (cause.TooLong most)))) (λ reads. bytes_of which most (reads which))
read_long which most None fails X view h =
    let long : List ℕ = replicate (most + 1) 0 in
    record { read = Some long; is_read = tt; finds = too_long which most long (omega (arith, length-replicate {A = ℕ} (most + 1) 0)) }
read_long which most (Some bytes) fails X view h = record { read = Some bytes; is_read = refl; finds = too_long which most bytes h }

-- a file that is longer than its limit
pub long_file : (held left : Option (List ℕ)) (most : ℕ) → IfSome held (λ bytes. (most < length bytes) × (left ≡ Some (drop (most + 1) bytes))) → IfSome held (λ bytes. most < length bytes)
long_file None left most h = h
long_file (Some bytes) left most h = h.0

-- an error goes through what follows
pub bind_error : {A B : Type 0} (value : Result A Fault) (f : A → Result B Fault) (s : AskError) → IsFaultOf s value → IsFaultOf s (value >>= f)
bind_error value f error.Memory h = tt
bind_error value f (error.Fault e) h = ap (λ r. r >>= f) h

-- what was found of the bytes is found of the file
pub of_bytes : {X Y A E : Type 0} {held : Option (List ℕ)} {fails : Type 0} (of_y : Y → List ℕ) (view : X → A) (y : Y) (which : File) (most : ℕ) (as_cause : E → Cause) (value : List ℕ → Result A E) (result : Result X AskError)
    → ReadsTo held fails of_y (Ok y) (read_as which most (λ (c : Cause). c) Ok) → Finds view result (or_fault which as_cause (value (of_y y))) → ReadsTo held fails view result (read_as which most as_cause value)
of_bytes {A} of_y view y which most as_cause value result found h = record {
  read = found.read;
  is_read = found.is_read;
  finds = subst (λ (v : Result A Fault). Finds view result v) (sym (by_bytes which most as_cause value found.read))
      (subst (λ (v : Result (List ℕ) Fault). Finds view result (v >>= λ bytes. or_fault which as_cause (value bytes))) (sym found.finds) h);
}

pub no_bytes : {X Y A E : Type 0} {held : Option (List ℕ)} {fails : Type 0} (of_y : Y → List ℕ) (view : X → A) (which : File) (most : ℕ) (as_cause : E → Cause) (value : List ℕ → Result A E) (s : AskError)
    → ReadsTo held fails of_y (Err s) (read_as which most (λ (c : Cause). c) Ok) → ReadsTo held fails view (Err s) (read_as which most as_cause value)
no_bytes {A} of_y view which most as_cause value s found = record {
  read = found.read;
  is_read = found.is_read;
  finds = subst (λ (v : Result A Fault). IsFaultOf s v) (sym (by_bytes which most as_cause value found.read)) (bind_error (bytes_of which most found.read) (λ bytes. or_fault which as_cause (value bytes)) s found.finds);
}

-- what is asked was found in the bytes of the option's file, and so in what was read
found_in : (result : Result (List Job) AskError) (value : Result (List Job) Cause) → FindsJobs result value → Finds (λ (jobs : List Job). jobs) result (or_fault file.Asked (λ (c : Cause). c) value)
found_in (Ok jobs) value h = ap (or_fault file.Asked (λ (c : Cause). c)) h
found_in (Err e) value h = h

-- what is asked was found in no bytes, and so in a file that isn't named
pub jobs_found : (o : FileOption) (result : Result (List Job) AskError) → FindsJobs result (jobs_in o []) → Finds (λ (jobs : List Job). jobs) result (jobs_by o (Some []))
jobs_found o result h =
    subst (λ (v : Result (List Job) Fault). Finds (λ (jobs : List Job). jobs) result v) (sym (by_bytes file.Asked (most_bytes o) (λ (c : Cause). c) (jobs_in o) (Some [])))
    (subst (λ (bytes : Result (List ℕ) Fault). Finds (λ (jobs : List Job). jobs) result (bytes >>= λ b. or_fault file.Asked (λ (c : Cause). c) (jobs_in o b))) (sym (whole file.Asked (most_bytes o) [] (omega arith)))
    (found_in result (jobs_in o []) h))

-- what is known of a file that was read in the middle is known of the inputs at their start and end
module _ {I : Type 0} {holds : I → List ℕ → Option (List ℕ)} {is_sound : I → List ℕ → Type 0} {faults : I → ℕ} where
  is_read_whole : (old mid new last : I) → KeepsNames holds is_sound faults old mid → faults new ≤ faults last → (name : List ℕ) (read : Option (List ℕ))
      → IsReadAs (source_of holds is_sound faults mid new) (Some name) read → IsReadAs (source_of holds is_sound faults old last) (Some name) read
  is_read_whole old mid new last keeps later name None h =
      (let rose : HasRisen (faults old) (faults new) = rose_earlier (faults old) (faults mid) (faults new) keeps.later h.0 in omega (arith, rose, later), λ sound. h.1 (keeps.sound name sound))
  is_read_whole old mid new last keeps later name (Some bytes) h = subst (λ (held : Option (List ℕ)). Keeps held (Some bytes)) (keeps.holds_same name) h

  pub read_whole_run : (old mid new last : I) → KeepsNames holds is_sound faults old mid → faults new ≤ faults last → (name read : Option (List ℕ))
      → IsReadAs (source_of holds is_sound faults mid new) name read → IsReadAs (source_of holds is_sound faults old last) name read
  read_whole_run old mid new last keeps later None read h = h
  read_whole_run old mid new last keeps later (Some name) read h = is_read_whole old mid new last keeps later name read h

  -- inputs that no call was made on
  pub kept_names : (i : I) → KeepsNames holds is_sound faults i i
  kept_names i = record { holds_same = λ name. refl; sound = λ name h. h; later = omega arith }

  -- inputs that two calls were made on
  pub kept_twice : (old mid new : I) → KeepsNames holds is_sound faults old mid → KeepsNames holds is_sound faults mid new → KeepsNames holds is_sound faults old new
  kept_twice old mid new first second = record {
    holds_same = λ name. second.holds_same name ∙ first.holds_same name;
    sound = λ name h. second.sound name (first.sound name h);
    later = omega (arith, first.later, second.later);
  }
