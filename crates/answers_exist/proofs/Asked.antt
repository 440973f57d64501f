-- What a task is made from.
use Rattle.std.proofs.Common.{◌≡◌, ◌⊎◌, inl, inr, ℕ, Bool, true, false, List, [], ◌∷◌, map, length, Option, Some, None, Result, Ok, Err, if◌then◌else◌, nat_lt, refl, sym, ◌∙◌, subst, ap}
use Rattle.std.specs.FinMap as fin
use Rattle.std.specs.Option.{option_map_or}
use Rattle.std.specs.Prelude.{ok_or}
use Rattle.std.specs.Result.{result_map_both}
use Rattle.clap.specs.Walk.{Text}
use Rattle.caida_reader.specs.Value.{links_of}
use Rattle.net_names.specs.Links.{LinkMap}
use Rattle.net_names.specs.Prefixes.{PrefixValue}
use Rattle.net_names.specs.declared.addresses.Family.TheVariants.{V4}
use Rattle.roa_table.specs.Files.{payloads_in}
use Rattle.roa_table.specs.Sets.{Payloads}
use Rattle.scenario_text.specs.Scenarios.{ScenarioValue, nothing}
use Rattle.scenario_text.specs.Readings.{scenario_of_bytes}
use Rattle.scenario_text.specs.Walks.{◌>>=◌}
use Rattle.scenario_text.specs.declared.acts.Act.TheVariants.{Query}
use Rattle.scenario_text.specs.declared.acts.Query.TheVariants.{Routes}
use Rattle.topo_gen.specs.Drawn.{drawn_links}
use Rattle.topo_gen.specs.Scenarios.{drawn_payloads, drawn_scenario}
use Rattle.topo_gen.specs.Lines.{drawn_lines}
use Rattle.as_graph.specs.Topology.{as_count}
use Rattle.as_graph.specs.declared.build.TheConstants.{MOST_ASES}
use Rattle.sim_core.specs.Loaded.{world_of}
use Rattle.sim_core.specs.World.{topology}
use Rattle.task_reading.specs.Asking.{asked, jobs_in, read_as}
use Rattle.task_reading.specs.Jobs.{Job, counts_job, line_job}
use Rattle.task_reading.specs.Words.{Form, demo_form, file_form, origin_form}
use Rattle.task_reading.specs.declared.asking.Asked.{Asked}
use Rattle.net_names.specs.declared.limits.TheConstants.{MOST_LIST_BYTES, MOST_TEXT_BYTES}
use Rattle.task_reading.specs.declared.types.Cause.{Cause}
use Rattle.task_reading.specs.declared.types.Cause.TheVariants as cause
use Rattle.task_reading.specs.declared.types.Cause.TheVariants.{TooLong, Unread}
use Rattle.task_reading.specs.declared.types.Fault.{Fault}
use Rattle.task_reading.specs.declared.types.Fault.TheVariants.{InFile, TooManyAses}
use Rattle.task_reading.specs.declared.types.File.{File}
use Rattle.task_reading.specs.declared.types.File.TheVariants as file
use Rattle.task_reading.specs.declared.words.FileOption.{FileOption}
use Rattle.task_reading.specs.declared.words.FileOption.TheVariants.{Check}
use Rattle.asprop_run.specs.Task.{Task, task_of}

-- ---- steps that went well

four : {A B C D X F : Type 0} (a : Result A F) (b : Result B F) (c : Result C F) (d : Result D F) (f : A → B → C → D → X) (x : X) → (a >>= λ p. b >>= λ q. c >>= λ r. d >>= λ s. Ok (f p q r s)) ≡ Ok x
    → (p : A) × (q : B) × (r : C) × (s : D) × (a ≡ Ok p) × (c ≡ Ok r) × (d ≡ Ok s) × (f p q r s ≡ x)
four (Ok p) (Ok q) (Ok r) (Ok s) f x e = (p, q, r, s, refl, refl, refl, let t : f p q r s ≡ x = cc in t)
four (Ok p) (Ok q) (Ok r) (Err s) f x e = cc
four (Ok p) (Ok q) (Err r) d f x e = cc
four (Ok p) (Err q) c d f x e = cc
four (Err p) b c d f x e = cc

one_step : {A X F : Type 0} (a : Result A F) (f : A → X) (x : X) → (a >>= λ p. Ok (f p)) ≡ Ok x → (p : A) × (a ≡ Ok p) × (f p ≡ x)
one_step (Ok p) f x e = (p, refl, let t : f p ≡ x = cc in t)
one_step (Err p) f x e = cc

pub both_ok : {A B E F : Type 0} (f : A → B) (g : E → F) (r : Result A E) (y : B) → result_map_both f g r ≡ Ok y → (x : A) × (r ≡ Ok x) × (y ≡ f x)
both_ok f g (Ok x) y e = (x, refl, let t : y ≡ f x = cc in t)
both_ok f g (Err x) y e = cc

read_from : {A E : Type 0} (which : File) (most : ℕ) (as_cause : E → Cause) (value : List ℕ → Result A E) (reads : File → Option (List ℕ)) (y : A) → read_as which most as_cause value reads ≡ Ok y → (bytes : List ℕ) × (value bytes ≡ Ok y)
read_from which most as_cause value reads y e = by (reads which) e
  where
    at : (bytes : List ℕ) (b : Bool) → (if b then Err (InFile which (TooLong most)) else result_map_both (λ x. x) (λ c. InFile which (as_cause c)) (value bytes)) ≡ Ok y → value bytes ≡ Ok y
    at bytes true e = cc
    at bytes false e = let (x, is, same) = both_ok (λ x. x) (λ c. InFile which (as_cause c)) (value bytes) y e in is ∙ ap (λ t. Ok t) (sym same)

    by : (o : Option (List ℕ)) → (ok_or o (InFile which Unread) >>= λ bytes. if nat_lt most (length bytes) then Err (InFile which (TooLong most)) else result_map_both (λ x. x) (λ c. InFile which (as_cause c)) (value bytes)) ≡ Ok y → (bytes : List ℕ) × (value bytes ≡ Ok y)
    by None e = cc
    by (Some bytes) e = (bytes, at bytes (nat_lt most (length bytes)) e)

-- ---- what is asked for

-- what is asked for of a generated input
abbrev pub demo : ℕ → Asked
demo n = record { links = drawn_links n; vrps = drawn_payloads n; scenario = drawn_scenario n; jobs = counts_job ∷ map (line_job true) (drawn_lines (drawn_links n)) }

-- all addresses
abbrev pub everything : PrefixValue
everything = record { family = V4; addr = 0; len = 0 }

-- what is asked for of one origin
abbrev pub one_origin : LinkMap → ℕ → Asked
one_origin links origin = record { links = links; vrps = fin.empty; scenario = record nothing { announcements = record { prefix = everything; asn = origin; path = origin ∷ [] } ∷ [] }; jobs = line_job false (record { number = 1; act = Query (Routes 1 everything) }) ∷ [] }

-- what is asked for of files
pub record AreFiles (option : FileOption) (x : Asked) : Type 0 where
  pub relations : Text
  pub links : links_of relations ≡ Ok x.links
  pub scenario : (x.scenario ≡ nothing) ⊎ ((bytes : Text) × (scenario_of_bytes bytes ≡ Ok x.scenario))
  pub text : Text
  pub jobs : jobs_in option text ≡ Ok x.jobs

abbrev pub IsAskedBy : Option Form → Asked → Type 0
IsAskedBy None x = ⊥
IsAskedBy (Some (demo_form n)) x = demo n ≡ x
IsAskedBy (Some (origin_form rel origin)) x = (relations : Text) × (links : LinkMap) × (links_of relations ≡ Ok links) × (one_origin links origin ≡ x)
IsAskedBy (Some (file_form rel vrps scenario name option)) x = AreFiles option x

plan_read : (name : Option (List ℕ)) (reads : File → Option (List ℕ)) (plan : ScenarioValue) → option_map_or (λ _. read_as file.Scenario MOST_TEXT_BYTES cause.Scenario scenario_of_bytes reads) name (Ok nothing) ≡ Ok plan
    → (plan ≡ nothing) ⊎ ((bytes : Text) × (scenario_of_bytes bytes ≡ Ok plan))
plan_read None reads plan e = inl (let same : plan ≡ nothing = cc in same)
plan_read (Some name) reads plan e = inr (read_from file.Scenario MOST_TEXT_BYTES cause.Scenario scenario_of_bytes reads plan e)

pub asked_by : (form : Option Form) (reads : File → Option (List ℕ)) (x : Asked) → asked form reads ≡ Ok x → IsAskedBy form x
asked_by None reads x e = cc
asked_by (Some (demo_form n)) reads x e = let t : demo n ≡ x = cc in t
asked_by (Some (origin_form rel origin)) reads x e =
    let (links, found, is) = one_step (read_as file.Relations MOST_LIST_BYTES cause.Relation links_of reads) (λ links. one_origin links origin) x e in
    let (bytes, read) = read_from file.Relations MOST_LIST_BYTES cause.Relation links_of reads links found in
    (bytes, links, read, is)
asked_by (Some (file_form rel vrps scenario name option)) reads x e =
    let most : ℕ = elim option [ Check ↦ MOST_LIST_BYTES | _ ↦ MOST_TEXT_BYTES ] in
    let whole : LinkMap → Payloads → ScenarioValue → List Job → Asked = λ links payloads plan jobs. record { links = links; vrps = payloads; scenario = plan; jobs = jobs } in
    let (links, payloads, plan, jobs, found, planned, read, is) = four (read_as file.Relations MOST_LIST_BYTES cause.Relation links_of reads) (read_as file.Payloads MOST_LIST_BYTES cause.Payload payloads_in reads)
    (option_map_or (λ _. read_as file.Scenario MOST_TEXT_BYTES cause.Scenario scenario_of_bytes reads) scenario (Ok nothing)) (read_as file.Asked most (λ c. c) (jobs_in option) reads) whole x e in
    let (relations, linked) = read_from file.Relations MOST_LIST_BYTES cause.Relation links_of reads links found in
    let (text, said) = read_from file.Asked most (λ c. c) (jobs_in option) reads jobs read in
    subst (AreFiles option) is (record { relations = relations; links = linked; scenario = plan_read scenario reads plan planned; text = text; jobs = said })

-- the task, where what is asked for is found
task_by : (r : Result Asked Fault) (t : Task) → (r >>= λ a. let world = world_of a.links a.vrps a.scenario in if nat_lt MOST_ASES (as_count (topology world)) then Err TooManyAses else Ok (record { world = world; jobs = a.jobs })) ≡ Ok t
    → (x : Asked) × (r ≡ Ok x) × ◌≡◌ {A = Task} (record { world = world_of x.links x.vrps x.scenario; jobs = x.jobs }) t
task_by (Err f) t e = cc
task_by (Ok x) t e = (x, refl, at (nat_lt MOST_ASES (as_count (topology (world_of x.links x.vrps x.scenario)))) e)
  where
    at : (b : Bool) → ◌≡◌ {A = Result Task Fault} (if b then Err TooManyAses else Ok (record { world = world_of x.links x.vrps x.scenario; jobs = x.jobs })) (Ok t) → ◌≡◌ {A = Task} (record { world = world_of x.links x.vrps x.scenario; jobs = x.jobs }) t
    at true e = cc
    at false e = let same : ◌≡◌ {A = Task} (record { world = world_of x.links x.vrps x.scenario; jobs = x.jobs }) t = cc in same

-- what is asked for, of which the task is made
pub asked_for : (form : Option Form) (reads : File → Option Text) (t : Task) → task_of form reads ≡ Ok t → (x : Asked) × IsAskedBy form x × (t.world ≡ world_of x.links x.vrps x.scenario) × (t.jobs ≡ x.jobs)
asked_for form reads t e =
    let (x, read, same) = task_by (asked form reads) t e in
    (x, asked_by form reads x read, ap (λ (s : Task). s.world) (sym same), ap (λ (s : Task). s.jobs) (sym same))
