-- The faults of the words and the files.
use Rattle.std.proofs.Common.{◌≡◌, ◌⊎◌, inl, inr, ℕ, List, [], ◌∷◌, map, Option, Some, None, Result, Ok, Err, refl, sym, ap, subst, ◌∙◌, Bool, true, false, cond, codes, decimal, ◌++◌}
use Rattle.caida_reader.specs.Value.{links_of}
use Rattle.caida_reader.specs.declared.errors.RelError.{RelError}
use Rattle.scenario_text.specs.Readings.{scenario_of_bytes}
use Rattle.scenario_text.specs.Script.{script_of}
use Rattle.caida_reader.specs.declared.errors.RelError.TheVariants as rel
use Rattle.roa_table.specs.Files.{payloads_in}
use Rattle.roa_table.specs.declared.errors.VrpError.{VrpError}
use Rattle.roa_table.specs.declared.errors.VrpError.TheVariants as vrp
use Rattle.scenario_text.specs.declared.faults.ScenarioError.{ScenarioError}
use Rattle.scenario_text.specs.declared.faults.LimitOf.TheVariants as limit
use Rattle.scenario_text.specs.declared.faults.ScenarioError.TheVariants as scenario
use Rattle.scenario_text.specs.declared.line_faults.LinesError.{LinesError}
use Rattle.scenario_text.specs.declared.line_faults.LinesError.TheVariants as lines
use Rattle.scenario_text.specs.Walks.{◌>>=◌}
use Rattle.task_reading.specs.Texts.{cause_of, fault_ending, lines_cause}
use Rattle.std.specs.Result.{result_map_both}
use Rattle.activations.specs.Files.{acts_by}
use Rattle.activations.specs.declared.reading.ActsError.{ActsError}
use Rattle.activations.specs.declared.reading.ActsError.TheVariants as acts
use Rattle.message_sim.specs.Files.{deliveries_by}
use Rattle.net_names.specs.Lines.{kept_from, said_on}
use Rattle.message_sim.specs.declared.reading.DeliveriesError.{DeliveriesError}
use Rattle.message_sim.specs.declared.reading.DeliveriesError.TheVariants as deliveries
use Rattle.task_reading.specs.declared.words.FileOption.{FileOption}
use Rattle.task_reading.specs.declared.words.FileOption.TheVariants as option
use Rattle.sweep.specs.Reading.{with_line}
use Rattle.table_check.specs.Reading.{tables_by}
use Rattle.table_check.specs.declared.reading.TablesError.{TablesError}
use Rattle.table_check.specs.declared.reading.TablesError.TheVariants as tables
use Rattle.task_reading.specs.Jobs.{acts_job, line_job, messages_job, sweep_job, tables_job}
use Rattle.task_reading.specs.Asking.{asked, jobs_in, most_bytes, read_as}
use Rattle.task_reading.specs.Words.{Form, origin_form, file_form, demo_form}
use Rattle.task_reading.specs.declared.types.File.{File}
use Rattle.task_reading.specs.declared.types.File.TheVariants as file
use Rattle.task_reading.specs.declared.types.Fault.{Fault}
use Rattle.task_reading.specs.declared.types.Fault.TheVariants as fault
use Rattle.task_reading.specs.declared.types.Cause.{Cause}
use Rattle.task_reading.specs.declared.types.Cause.TheVariants as cause
use Rattle.task_reading.specs.declared.types.Status.{Status}
use Rattle.task_reading.specs.declared.types.Status.TheVariants as status
use Rattle.task_reading.proofs.Preparing.{origin_task, file_task}
use Rattle.task_reading.proofs.ReadLemmas.{Reads, by_bytes, bytes_of, or_fault, relations, payloads_of, scenario_by, jobs_by}

-- a fault of two steps is one of the first or of the second
pub bind_err : {A B : Type 0} (r : Result A Fault) (f : A → Result B Fault) (e : Fault) → (r >>= f) ≡ Err e → (r ≡ Err e) ⊎ ((x : A) × (r ≡ Ok x) × (f x ≡ Err e))
bind_err (Ok x) f e h = inr (x, refl, h)
bind_err (Err d) f e h = let is : d ≡ e = cc in inl (ap Err is)

pub chosen_err : {A : Type 0} (b : Bool) (d e : Fault) (x : A) → cond b (Err d) (Ok x) ≡ Err e → d ≡ e
chosen_err true d e x h = cc
chosen_err false d e x h = cc

-- the status of a fault
abbrev pub status_of : Option Form → Fault → Status
status_of form f = (fault_ending form f).0

-- a fault that is neither one of the words nor a failed read, and that no write makes
pub record IsOther (form : Option Form) (f : Fault) : Type 0 where
  pub usage : status.Usage ≡ status_of form f → ⊥
  pub read : status.ReadFault ≡ status_of form f → ⊥
  pub write : status.WriteFault ≡ status_of form f → ⊥

other : (form : Option Form) (f : Fault) (s : Status) → status_of form f ≡ s → (status.Usage ≡ s → ⊥) → (status.ReadFault ≡ s → ⊥) → (status.WriteFault ≡ s → ⊥) → IsOther form f
other form f s is no_usage no_read no_write = record { usage = λ h. no_usage (h ∙ is); read = λ h. no_read (h ∙ is); write = λ h. no_write (h ∙ is) }

bad : (form : Option Form) (f : Fault) → status_of form f ≡ status.BadInput → IsOther form f
bad form f is = other form f status.BadInput is (λ h. cc) (λ h. cc) (λ h. cc)

large : (form : Option Form) (f : Fault) → status_of form f ≡ status.TooLarge → IsOther form f
large form f is = other form f status.TooLarge is (λ h. cc) (λ h. cc) (λ h. cc)

pub other_relation : (form : Option Form) (which : File) (e : RelError) → IsOther form (fault.InFile which (cause.Relation e))
other_relation form which rel.Memory = bad form _ refl
other_relation form which (rel.Unreadable n) = bad form _ refl
other_relation form which (rel.SelfLink n) = bad form _ refl
other_relation form which (rel.Conflict n m) = bad form _ refl
other_relation form which (rel.TooManyLinks n) = large form _ refl

pub other_payload : (form : Option Form) (which : File) (e : VrpError) → IsOther form (fault.InFile which (cause.Payload e))
other_payload form which vrp.Memory = bad form _ refl
other_payload form which (vrp.Fields n) = bad form _ refl
other_payload form which (vrp.BadAsn n) = bad form _ refl
other_payload form which (vrp.BadPrefix n) = bad form _ refl
other_payload form which (vrp.BadMax n) = bad form _ refl
other_payload form which (vrp.TooMany n) = large form _ refl

pub other_scenario : (form : Option Form) (which : File) (e : ScenarioError) → IsOther form (fault.InFile which (cause.Scenario e))
other_scenario form which scenario.Memory = bad form _ refl
other_scenario form which scenario.NotJson = bad form _ refl
other_scenario form which (scenario.Shape place) = bad form _ refl
other_scenario form which (scenario.Value place) = bad form _ refl
other_scenario form which (scenario.Twice place) = bad form _ refl
other_scenario form which (scenario.Limit limit.Announcements) = large form _ refl
other_scenario form which (scenario.Limit limit.Prefixes) = large form _ refl
other_scenario form which (scenario.Limit limit.Path) = large form _ refl
other_scenario form which (scenario.Limit limit.Rounds) = large form _ refl
other_scenario form which (scenario.Limit limit.Leakers) = large form _ refl
other_scenario form which (scenario.Limit limit.Watch) = large form _ refl

-- each fault of a file of lines
other_lines : (form : Option Form) (which : File) (c : Cause) (most : List ℕ) (e : LinesError) → cause_of c ≡ lines_cause most e → IsOther form (fault.InFile which c)
other_lines form which c most lines.Memory is = bad form _ (ap (λ (row : Status × List ℕ). row.0) is)
other_lines form which c most (lines.Unreadable n) is = bad form _ (ap (λ (row : Status × List ℕ). row.0) is)
other_lines form which c most (lines.TooMany n) is = large form _ (ap (λ (row : Status × List ℕ). row.0) is)

pub other_script : (form : Option Form) (which : File) (e : LinesError) → IsOther form (fault.InFile which (cause.Script e))
other_script form which e = other_lines form which (cause.Script e) (decimal 100000 ++ codes " commands") e refl

pub other_sweeps : (form : Option Form) (which : File) (e : LinesError) → IsOther form (fault.InFile which (cause.Sweeps e))
other_sweeps form which e = other_lines form which (cause.Sweeps e) (decimal 1000 ++ codes " sweeps") e refl

pub other_acts : (form : Option Form) (which : File) (e : ActsError) → IsOther form (fault.InFile which (cause.Acts e))
other_acts form which acts.Memory = bad form _ refl
other_acts form which (acts.Unreadable n) = bad form _ refl
other_acts form which (acts.Twice n) = bad form _ refl
other_acts form which (acts.TooMany n) = large form _ refl
other_acts form which acts.NoFor = bad form _ refl

pub other_deliveries : (form : Option Form) (which : File) (e : DeliveriesError) → IsOther form (fault.InFile which (cause.Deliveries e))
other_deliveries form which deliveries.Memory = bad form _ refl
other_deliveries form which (deliveries.Unreadable n) = bad form _ refl
other_deliveries form which (deliveries.TooMany n) = large form _ refl
other_deliveries form which deliveries.NoFor = bad form _ refl

pub other_tables : (form : Option Form) (which : File) (e : TablesError) → IsOther form (fault.InFile which (cause.Tables e))
other_tables form which tables.Memory = bad form _ refl
other_tables form which (tables.Unreadable n) = bad form _ refl
other_tables form which (tables.Twice n) = bad form _ refl
other_tables form which tables.NoFor = bad form _ refl

-- a value that is none has a cause of its reader
cause_by : {A B E : Type 0} (f : A → B) (as_cause : E → Cause) (form : Option Form) (which : File) → ((e : E) → IsOther form (fault.InFile which (as_cause e)))
    → (value : Result A E) (c : Cause) → result_map_both f as_cause value ≡ Err c → IsOther form (fault.InFile which c)
cause_by f as_cause form which others (Ok x) c h = cc
cause_by f as_cause form which others (Err e) c h = let is : as_cause e ≡ c = cc in subst (λ (c : Cause). IsOther form (fault.InFile which c)) is (others e)

other_jobs : (form : Option Form) (which : File) (o : FileOption) (bytes : List ℕ) (c : Cause) → jobs_in o bytes ≡ Err c → IsOther form (fault.InFile which c)
other_jobs form which option.Script bytes c h = cause_by (map (line_job true)) cause.Script form which (other_script form which) (script_of bytes) c h
other_jobs form which option.Activations bytes c h = cause_by (λ acts. acts_job acts ∷ []) cause.Acts form which (other_acts form which) (acts_by (kept_from 1 bytes)) c h
other_jobs form which option.Messages bytes c h = cause_by (λ deliveries. messages_job deliveries ∷ []) cause.Deliveries form which (other_deliveries form which) (deliveries_by (kept_from 1 bytes)) c h
other_jobs form which option.Sweep bytes c h = cause_by (map sweep_job) cause.Sweeps form which (other_sweeps form which) (said_on with_line [] (kept_from 1 bytes)) c h
other_jobs form which option.Check bytes c h = cause_by (λ t. tables_job t ∷ []) cause.Tables form which (other_tables form which) (tables_by (kept_from 1 bytes)) c h

-- a line that names what isn't in the world
pub other_line : (form : Option Form) (which : File) (line : ℕ) → IsOther form (fault.InFile which (cause.NotInWorld line))
other_line form which line = bad form _ refl

-- a world with too many ASes
pub too_many : (form : Option Form) → IsOther form fault.TooManyAses
too_many form = large form _ refl

-- why the words and the files give no task
pub data Stopped (form : Option Form) (reads : Reads) : Fault → Type 0 where
  no_form : form ≡ None → Stopped form reads fault.Usage
  unread : (which : File) → reads which ≡ None → Stopped form reads (fault.InFile which cause.Unread)
  by_value : (f : Fault) → IsOther form f → Stopped form reads f

module _ (form : Option Form) (reads : Reads) where
  of_value : {A E : Type 0} (which : File) (as_cause : E → Cause) (r : Result A E) → ((e : E) → r ≡ Err e → IsOther form (fault.InFile which (as_cause e))) → (e : Fault) → or_fault which as_cause r ≡ Err e → Stopped form reads e
  of_value which as_cause (Ok x) others e h = cc
  of_value which as_cause (Err d) others e h =
      let is : fault.InFile which (as_cause d) ≡ e = cc in subst (Stopped form reads) is (by_value (fault.InFile which (as_cause d)) (others d refl))

  of_bytes : (which : File) (most : ℕ) (read : Option (List ℕ)) → reads which ≡ read → (e : Fault) → bytes_of which most read ≡ Err e → Stopped form reads e
  of_bytes which most None none e h = let is : fault.InFile which cause.Unread ≡ e = cc in subst (Stopped form reads) is (unread which none)
  of_bytes which most (Some bytes) some e h = subst (Stopped form reads) (chosen_err _ _ e bytes h) (by_value (fault.InFile which (cause.TooLong most)) (large form _ refl))

  of_read : {A E : Type 0} (which : File) (most : ℕ) (as_cause : E → Cause) (value : List ℕ → Result A E) → ((bytes : List ℕ) (e : E) → value bytes ≡ Err e → IsOther form (fault.InFile which (as_cause e))) → (e : Fault) → read_as which most as_cause value reads ≡ Err e → Stopped form reads e
  of_read which most as_cause value others e h =
      elim (bind_err (bytes_of which most (reads which)) (λ bytes. or_fault which as_cause (value bytes)) e (sym (by_bytes which most as_cause value (reads which)) ∙ h)) [
        | inl early ↦ of_bytes which most (reads which) refl e early
        | inr late ↦ of_value which as_cause (value late.0) (others late.0) e late.2
      ]

  of_payloads : (e : Fault) → payloads_of (reads file.Payloads) ≡ Err e → Stopped form reads e
  of_payloads e h = of_read file.Payloads 268435456 cause.Payload payloads_in (λ _ e _. other_payload form file.Payloads e) e h

  of_scenario : (name : Option (List ℕ)) (e : Fault) → scenario_by name (reads file.Scenario) ≡ Err e → Stopped form reads e
  of_scenario None e h = cc
  of_scenario (Some name) e h = of_read file.Scenario 16777216 cause.Scenario scenario_of_bytes (λ _ e _. other_scenario form file.Scenario e) e h

  of_jobs : (o : FileOption) (e : Fault) → jobs_by o (reads file.Asked) ≡ Err e → Stopped form reads e
  of_jobs o e h = of_read file.Asked (most_bytes o) (λ c. c) (jobs_in o) (other_jobs form file.Asked o) e h

-- each fault of what is asked for has its reason
pub of_asked : (form : Option Form) (reads : Reads) (e : Fault) → asked form reads ≡ Err e → Stopped form reads e
of_asked None reads e h = let is : fault.Usage ≡ e = cc in subst (Stopped None reads) is (no_form refl)
of_asked (Some (demo_form size)) reads e h = cc
of_asked (Some (origin_form rel origin)) reads e h =
    elim (bind_err (relations (reads file.Relations)) (λ links. Ok (origin_task links origin)) e h) [
      | inl early ↦ of_read _ reads file.Relations 268435456 cause.Relation links_of (λ _ e _. other_relation _ file.Relations e) e early
      | inr late ↦ cc
    ]
of_asked (Some (file_form rel vrps scenario named o)) reads e h =
    elim (bind_err (relations (reads file.Relations)) (λ links. payloads_of (reads file.Payloads) >>= λ payloads. scenario_by scenario (reads file.Scenario) >>= λ plan. jobs_by o (reads file.Asked) >>= λ jobs. Ok (file_task links payloads plan jobs)) e h) [
      | inl early ↦ of_read _ reads file.Relations 268435456 cause.Relation links_of (λ _ e _. other_relation _ file.Relations e) e early
      | inr links ↦ elim (bind_err (payloads_of (reads file.Payloads)) (λ payloads. scenario_by scenario (reads file.Scenario) >>= λ plan. jobs_by o (reads file.Asked) >>= λ jobs. Ok (file_task links.0 payloads plan jobs)) e links.2) [
        | inl early ↦ of_payloads _ reads e early
        | inr payloads ↦ elim (bind_err (scenario_by scenario (reads file.Scenario)) (λ plan. jobs_by o (reads file.Asked) >>= λ jobs. Ok (file_task links.0 payloads.0 plan jobs)) e payloads.2) [
          | inl early ↦ of_scenario _ reads scenario e early
          | inr plan ↦ elim (bind_err (jobs_by o (reads file.Asked)) (λ jobs. Ok (file_task links.0 payloads.0 plan.0 jobs)) e plan.2) [
            | inl early ↦ of_jobs _ reads o e early
            | inr late ↦ cc
          ]
        ]
      ]
    ]
