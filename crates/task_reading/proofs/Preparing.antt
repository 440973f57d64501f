-- What the form and the files ask for.
use Rattle.std.proofs.Common.{◌≡◌, ℕ, true, false, List, [], ◌∷◌, map, Option, Some, None, Result, Ok, Err, refl, sym, ap, subst}
use Rattle.net_names.specs.Links.{LinkMap}
use Rattle.net_names.specs.Prefixes.{PrefixValue}
use Rattle.net_names.specs.declared.addresses.Family.TheVariants.{V4}
use Rattle.roa_table.specs.Sets.{Payloads, no_payloads as no_payload}
use Rattle.scenario_text.specs.Scenarios.{ScenarioValue, nothing}
use Rattle.scenario_text.specs.declared.acts.Act.TheVariants as act
use Rattle.scenario_text.specs.declared.acts.Query.TheVariants as query
use Rattle.scenario_text.specs.Walks.{◌>>=◌}
use Rattle.topo_gen.specs.Drawn.{drawn_links}
use Rattle.topo_gen.specs.Scenarios.{drawn_payloads, drawn_scenario}
use Rattle.topo_gen.specs.Lines.{drawn_lines}
use Rattle.task_reading.specs.Words.{Form, file_form, origin_form, demo_form, name_by}
use Rattle.task_reading.specs.Asking.{asked}
use Rattle.task_reading.specs.Files.{IsReadAs, AreReads, IsFaultOf, Finds, ReadsAs, Prepares}
use Rattle.task_reading.specs.Sources.{Source}
use Rattle.task_reading.specs.declared.asking.Asked.{Asked}
use Rattle.task_reading.specs.declared.types.File.TheVariants as file
use Rattle.task_reading.specs.Jobs.{Job, counts_job, line_job}
use Rattle.task_reading.specs.declared.words.FileOption.{FileOption}
use Rattle.task_reading.specs.declared.types.AskError.{AskError}
use Rattle.task_reading.specs.declared.types.AskError.TheVariants as error
use Rattle.task_reading.specs.declared.types.Fault.{Fault}
use Rattle.task_reading.specs.declared.types.Fault.TheVariants as fault
use Rattle.task_reading.proofs.ReadLemmas.{Reads, relations, payloads_of, scenario_by, jobs_by, some_read_as, bind_error}

-- what was asked for was found, or the error says why not
abbrev Found : Result Asked AskError → Result Asked Fault → Type 0
Found result value = Finds (λ (found : Asked). found) result value

-- the routes of all ASes to one origin
abbrev pub origin_task : LinkMap → ℕ → Asked
origin_task links origin = let all : PrefixValue = record { family = V4; addr = 0; len = 0 } in record {
  links = links;
  vrps = no_payload;
  scenario = record nothing { announcements = record { prefix = all; asn = origin; path = origin ∷ [] } ∷ [] };
  jobs = line_job false (record { number = 1; act = act.Query (query.Routes 1 all) }) ∷ [];
}

-- what an option's file asks for
abbrev pub file_task : LinkMap → Payloads → ScenarioValue → List Job → Asked
file_task links payloads scenario jobs = record { links = links; vrps = payloads; scenario = scenario; jobs = jobs }

-- the answers to the lines of the generated input
abbrev demo_task : ℕ → Asked
demo_task n = record { links = drawn_links n; vrps = drawn_payloads n; scenario = drawn_scenario n; jobs = counts_job ∷ map (line_job true) (drawn_lines (drawn_links n)) }

-- what was read of each file
abbrev pub four : Option (List ℕ) → Option (List ℕ) → Option (List ℕ) → Option (List ℕ) → Reads
four relations payloads scenario script file.Relations = relations
four relations payloads scenario script file.Payloads = payloads
four relations payloads scenario script file.Scenario = scenario
four relations payloads scenario script file.Asked = script

-- the relationship file alone
abbrev alone : Option (List ℕ) → Reads
alone read = four read (Some []) (Some []) (Some [])

-- something was read of each file
pub none_read : (from : Source) (form : Option Form) → (reads : Reads) × AreReads from form reads
none_read from form = (λ which. (some_read_as from (name_by form which)).0, λ which. (some_read_as from (name_by form which)).1)

-- the generated input needs no file
pub demo_found : {from : Source} (size : ℕ) (result : Result Asked AskError) → Found result (Ok (demo_task size))
    → Prepares from (Some (demo_form size)) result
demo_found size result h = record { reads = λ file. Some []; are_read = λ file. refl; finds = h }

module _ (from : Source) (rel : List ℕ) where
  one_read : (origin : ℕ) (read : Option (List ℕ)) → IsReadAs from (Some rel) read → AreReads from (Some (origin_form rel origin)) (alone read)
  one_read origin read h file.Relations = h
  one_read origin read h file.Payloads = refl
  one_read origin read h file.Scenario = refl
  one_read origin read h file.Asked = refl

  four_read : (vrps scenario named : Option (List ℕ)) (option : FileOption) (a b c d : Option (List ℕ)) → IsReadAs from (Some rel) a → IsReadAs from vrps b → IsReadAs from scenario c → IsReadAs from named d
      → AreReads from (Some (file_form rel vrps scenario named option)) (four a b c d)
  four_read vrps scenario named option a b c d p q r t file.Relations = p
  four_read vrps scenario named option a b c d p q r t file.Payloads = q
  four_read vrps scenario named option a b c d p q r t file.Scenario = r
  four_read vrps scenario named option a b c d p q r t file.Asked = t

-- what follows what is asked, the scenario and the payloads
abbrev last : LinkMap → Payloads → ScenarioValue → Result (List Job) Fault → Result Asked Fault
last links payloads plan jobs = jobs >>= λ jobs. Ok (file_task links payloads plan jobs)

abbrev third : LinkMap → Payloads → FileOption → Option (List ℕ) → Result ScenarioValue Fault → Result Asked Fault
third links payloads option d plan = plan >>= λ plan. last links payloads plan (jobs_by option d)

abbrev second : LinkMap → Option (List ℕ) → FileOption → Option (List ℕ) → Option (List ℕ) → Result Payloads Fault → Result Asked Fault
second links scenario option c d payloads = payloads >>= λ payloads. third links payloads option d (scenario_by scenario c)

module _ (rel : List ℕ) (vrps scenario named : Option (List ℕ)) (option : FileOption) (a b c d : Option (List ℕ)) (links : LinkMap) (is_links : relations a ≡ Ok links) (result : Result Asked AskError) where
  by_links : Found result (second links scenario option c d (payloads_of b)) → Found result (asked (Some (file_form rel vrps scenario named option)) (four a b c d))
  by_links h = subst (λ (found : Result LinkMap Fault). Found result (found >>= λ links. second links scenario option c d (payloads_of b))) (sym is_links) h

  by_payloads : (payloads : Payloads) → payloads_of b ≡ Ok payloads → Found result (third links payloads option d (scenario_by scenario c)) → Found result (asked (Some (file_form rel vrps scenario named option)) (four a b c d))
  by_payloads payloads is h = by_links (subst (λ (v : Result Payloads Fault). Found result (second links scenario option c d v)) (sym is) h)

  by_plan : (payloads : Payloads) (plan : ScenarioValue) → payloads_of b ≡ Ok payloads → scenario_by scenario c ≡ Ok plan → Found result (last links payloads plan (jobs_by option d))
      → Found result (asked (Some (file_form rel vrps scenario named option)) (four a b c d))
  by_plan payloads plan is_payloads is h = by_payloads payloads is_payloads (subst (λ (v : Result ScenarioValue Fault). Found result (third links payloads option d v)) (sym is) h)

module _ {from : Source} where
  -- words without a form
  pub no_form : Prepares from None (Err (error.Fault fault.Usage))
  no_form = record { reads = λ _. Some []; are_read = λ _. refl; finds = refl }

  -- the routes to one origin
  pub origin_stopped : (rel : List ℕ) (origin : ℕ) {Y : Type 0} (of_y : Y → LinkMap) (s : AskError) → ReadsAs from (Some rel) of_y (Err s) (λ reads. relations (reads file.Relations)) → Prepares from (Some (origin_form rel origin)) (Err s)
  origin_stopped rel origin of_y s found = record {
    reads = alone found.read;
    are_read = one_read from rel origin found.read found.is_read;
    finds = bind_error (relations found.read) (λ links. Ok (origin_task links origin)) s found.finds;
  }

  pub origin_found : (rel : List ℕ) (origin : ℕ) {Y : Type 0} (of_y : Y → LinkMap) (y : Y) (result : Result Asked AskError) → ReadsAs from (Some rel) of_y (Ok y) (λ reads. relations (reads file.Relations)) → Found result (Ok (origin_task (of_y y) origin))
      → Prepares from (Some (origin_form rel origin)) result
  origin_found rel origin of_y y result found h = record {
    reads = alone found.read;
    are_read = one_read from rel origin found.read found.is_read;
    finds = subst (λ (links : Result LinkMap Fault). Found result (links >>= λ links. Ok (origin_task links origin))) (sym found.finds) h;
  }

  -- what an option's file asks for
  pub no_links : (rel : List ℕ) (vrps scenario named : Option (List ℕ)) (option : FileOption) (a : Option (List ℕ)) (s : AskError) → IsReadAs from (Some rel) a → IsFaultOf s (relations a) → Prepares from (Some (file_form rel vrps scenario named option)) (Err s)
  no_links rel vrps scenario named option a s p h =
      let b = some_read_as from vrps in
      let c = some_read_as from scenario in
      let d = some_read_as from named in
      record { reads = four a b.0 c.0 d.0; are_read = four_read from rel vrps scenario named option a b.0 c.0 d.0 p b.1 c.1 d.1; finds = bind_error (relations a) (λ links. second links scenario option c.0 d.0 (payloads_of b.0)) s h }

  pub no_payloads : (rel : List ℕ) (vrps scenario named : Option (List ℕ)) (option : FileOption) (a b : Option (List ℕ)) (links : LinkMap) (s : AskError) → IsReadAs from (Some rel) a → relations a ≡ Ok links → IsReadAs from vrps b → IsFaultOf s (payloads_of b)
      → Prepares from (Some (file_form rel vrps scenario named option)) (Err s)
  no_payloads rel vrps scenario named option a b links s p is_links q h =
      let c = some_read_as from scenario in
      let d = some_read_as from named in
      record {
        reads = four a b c.0 d.0;
        are_read = four_read from rel vrps scenario named option a b c.0 d.0 p q c.1 d.1;
        finds = by_links rel vrps scenario named option a b c.0 d.0 links is_links (Err s) (bind_error (payloads_of b) (λ payloads. third links payloads option d.0 (scenario_by scenario c.0)) s h);
      }

  pub no_scenario : (rel : List ℕ) (vrps scenario named : Option (List ℕ)) (option : FileOption) (a b c : Option (List ℕ)) (links : LinkMap) (payloads : Payloads) (s : AskError) → IsReadAs from (Some rel) a → relations a ≡ Ok links
      → IsReadAs from vrps b → payloads_of b ≡ Ok payloads → IsReadAs from scenario c → IsFaultOf s (scenario_by scenario c) → Prepares from (Some (file_form rel vrps scenario named option)) (Err s)
  no_scenario rel vrps scenario named option a b c links payloads s p is_links q is_payloads r h =
      let d = some_read_as from named in
      record {
        reads = four a b c d.0;
        are_read = four_read from rel vrps scenario named option a b c d.0 p q r d.1;
        finds = by_payloads rel vrps scenario named option a b c d.0 links is_links (Err s) payloads is_payloads (bind_error (scenario_by scenario c) (λ plan. last links payloads plan (jobs_by option d.0)) s h);
      }

  pub no_jobs : (rel : List ℕ) (vrps scenario named : Option (List ℕ)) (option : FileOption) (a b c d : Option (List ℕ)) (links : LinkMap) (payloads : Payloads) (plan : ScenarioValue) (s : AskError) → IsReadAs from (Some rel) a → relations a ≡ Ok links
      → IsReadAs from vrps b → payloads_of b ≡ Ok payloads → IsReadAs from scenario c → scenario_by scenario c ≡ Ok plan
      → IsReadAs from named d → IsFaultOf s (jobs_by option d) → Prepares from (Some (file_form rel vrps scenario named option)) (Err s)
  no_jobs rel vrps scenario named option a b c d links payloads plan s p is_links q is_payloads r is_plan t h = record {
    reads = four a b c d;
    are_read = four_read from rel vrps scenario named option a b c d p q r t;
    finds = by_plan rel vrps scenario named option a b c d links is_links (Err s) payloads plan is_payloads is_plan (bind_error (jobs_by option d) (λ jobs. Ok (file_task links payloads plan jobs)) s h);
  }

  pub all_read : (rel : List ℕ) (vrps scenario named : Option (List ℕ)) (option : FileOption) (a b c d : Option (List ℕ)) (links : LinkMap) (payloads : Payloads) (plan : ScenarioValue) (jobs : List Job) (x : Asked) → IsReadAs from (Some rel) a → relations a ≡ Ok links
      → IsReadAs from vrps b → payloads_of b ≡ Ok payloads → IsReadAs from scenario c → scenario_by scenario c ≡ Ok plan
      → IsReadAs from named d → jobs_by option d ≡ Ok jobs → x ≡ file_task links payloads plan jobs → Prepares from (Some (file_form rel vrps scenario named option)) (Ok x)
  all_read rel vrps scenario named option a b c d links payloads plan jobs x p is_links q is_payloads r is_plan t is_jobs is = record {
    reads = four a b c d;
    are_read = four_read from rel vrps scenario named option a b c d p q r t;
    finds = by_plan rel vrps scenario named option a b c d links is_links (Ok x) payloads plan is_payloads is_plan (subst (λ (v : Result (List Job) Fault). Found (Ok x) (last links payloads plan v)) (sym is_jobs) (ap Ok (sym is)));
  }
