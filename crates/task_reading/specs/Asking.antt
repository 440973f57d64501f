-- What the words and the files ask for, or the first fault.
use Rattle.std.specs.Prelude.{ℕ, true, false, nat_lt, List, [], ◌∷◌, length, map, Option, None, Some, ok_or, Result, Ok, Err, if◌then◌else◌}
use Rattle.std.specs.FinMap as fin
use Rattle.std.specs.Option.{option_map_or}
use Rattle.std.specs.Result.{result_map_both}
use Rattle.clap.specs.Walk.{Text}
use Rattle.net_names.specs.Prefixes.{PrefixValue}
use Rattle.net_names.specs.declared.addresses.Family.TheVariants.{V4}
use Rattle.caida_reader.specs.Value.{links_of}
use Rattle.roa_table.specs.Files.{payloads_in}
use Rattle.scenario_text.specs.Scenarios.{nothing}
use Rattle.scenario_text.specs.Readings.{scenario_of_bytes}
use Rattle.scenario_text.specs.Script.{script_of}
use Rattle.scenario_text.specs.Walks.{◌>>=◌}
use Rattle.scenario_text.specs.declared.acts.Act.TheVariants.{Query}
use Rattle.scenario_text.specs.declared.acts.Query.TheVariants.{Routes}
use Rattle.topo_gen.specs.Drawn.{drawn_links}
use Rattle.topo_gen.specs.Scenarios.{drawn_payloads, drawn_scenario}
use Rattle.topo_gen.specs.Lines.{drawn_lines}
use Rattle.activations.specs.Files.{acts_by}
use Rattle.message_sim.specs.Files.{deliveries_by}
use Rattle.net_names.specs.Lines.{kept_from}
use Rattle.sweep.specs.Reading.{sweeps_by}
use Rattle.table_check.specs.Reading.{tables_by}
use Rattle.task_reading.specs.Jobs.{Job, acts_job, counts_job, line_job, messages_job, sweep_job, tables_job}
use Rattle.task_reading.specs.Words.{Form, file_form, origin_form, demo_form}
use Rattle.task_reading.specs.declared.asking.Asked.{Asked}
use Rattle.net_names.specs.declared.limits.TheConstants.{MOST_LIST_BYTES, MOST_TEXT_BYTES}
use Rattle.task_reading.specs.declared.types.File.{File}
use Rattle.task_reading.specs.declared.types.File.TheVariants as file
use Rattle.task_reading.specs.declared.types.Cause.{Cause}
use Rattle.task_reading.specs.declared.types.Cause.TheVariants as cause
use Rattle.task_reading.specs.declared.types.Cause.TheVariants.{Unread, TooLong, Acts, Deliveries, Sweeps, Tables}
use Rattle.task_reading.specs.declared.types.Fault.{Fault}
use Rattle.task_reading.specs.declared.types.Fault.TheVariants as fault
use Rattle.task_reading.specs.declared.types.Fault.TheVariants.{InFile}
use Rattle.task_reading.specs.declared.words.FileOption.{FileOption}
use Rattle.task_reading.specs.declared.words.FileOption.TheVariants.{Script, Activations, Messages, Sweep, Check}

-- the value that the bytes of a file say, where it was read and has no more than so many, or its fault
abbrev pub read_as : {A E : Type 0} → File → ℕ → (E → Cause) → (Text → Result A E) → (File → Option Text) → Result A Fault
read_as which most as_cause value reads = ok_or (reads which) (InFile which Unread) >>= λ bytes.
    if nat_lt most (length bytes) then Err (InFile which (TooLong most))
    else result_map_both (λ x. x) (λ e. InFile which (as_cause e)) (value bytes)

-- the jobs that the bytes of an option's file ask for, or why they say nothing (own format)
abbrev pub jobs_in : FileOption → Text → Result (List Job) Cause
jobs_in Script text = result_map_both (map (line_job true)) cause.Script (script_of text)
jobs_in Activations text = result_map_both (λ a. acts_job a ∷ []) Acts (acts_by (kept_from 1 text))
jobs_in Messages text = result_map_both (λ d. messages_job d ∷ []) Deliveries (deliveries_by (kept_from 1 text))
jobs_in Sweep text = result_map_both (map sweep_job) Sweeps (sweeps_by (kept_from 1 text))
jobs_in Check text = result_map_both (λ t. tables_job t ∷ []) Tables (tables_by (kept_from 1 text))

-- how many bytes an option's file may have (own format)
abbrev pub most_bytes : FileOption → ℕ
most_bytes option = elim option [ Check ↦ MOST_LIST_BYTES | _ ↦ MOST_TEXT_BYTES ]

-- what the form and the files ask for, given the bytes that were read of each file, or nothing where a read of it failed; or the first fault: the generated input, with the numbers of its ASes and links first; the routes of all ASes in round 1 to one origin, which announces 0.0.0.0/0 (RFC 4632, section 3.1) with its own number as the path, without payloads and without a head line;
-- what an option's file asks for. A file that isn't named is empty, and so has no payloads or lines; without a scenario its four lists are empty
abbrev pub asked : Option Form → (File → Option Text) → Result Asked Fault
asked None reads = Err fault.Usage
asked (Some (demo_form n)) reads = Ok (record { links = drawn_links n; vrps = drawn_payloads n; scenario = drawn_scenario n; jobs = counts_job ∷ map (line_job true) (drawn_lines (drawn_links n)) })
asked (Some (origin_form _ origin)) reads = do
  links ← read_as file.Relations MOST_LIST_BYTES cause.Relation links_of reads
  let all : PrefixValue = record { family = V4; addr = 0; len = 0 } in
      Ok (record { links = links; vrps = fin.empty; scenario = record nothing { announcements = record { prefix = all; asn = origin; path = origin ∷ [] } ∷ [] }; jobs = line_job false (record { number = 1; act = Query (Routes 1 all) }) ∷ [] })
asked (Some (file_form _ _ scenario _ option)) reads = do
  links ← read_as file.Relations MOST_LIST_BYTES cause.Relation links_of reads
  payloads ← read_as file.Payloads MOST_LIST_BYTES cause.Payload payloads_in reads
  plan ← option_map_or (λ _. read_as file.Scenario MOST_TEXT_BYTES cause.Scenario scenario_of_bytes reads) scenario (Ok nothing)
  jobs ← read_as file.Asked (elim option [ Check ↦ MOST_LIST_BYTES | _ ↦ MOST_TEXT_BYTES ])
      (λ c. c) (jobs_in option) reads
  Ok (record { links = links; vrps = payloads; scenario = plan; jobs = jobs })
