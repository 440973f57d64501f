-- The files of a form, read one after the other.
use Rattle.std.proofs.Common.{◌≡◌, ◌≤◌, ℕ, List, Option, Some, Ok, Err, arith}
use Rattle.net_names.specs.Links.{LinkMap}
use Rattle.roa_table.specs.Sets.{Payloads}
use Rattle.scenario_text.specs.Scenarios.{ScenarioValue}
use Rattle.io_edge.specs.Faults.{KeepsNames}
use Rattle.task_reading.specs.Sources.{source_of}
use Rattle.task_reading.specs.Words.{file_form}
use Rattle.task_reading.specs.declared.asking.Asked.{Asked}
use Rattle.task_reading.specs.Files.{IsReadAs, ReadsAs, Prepares}
use Rattle.task_reading.specs.declared.types.File.TheVariants as file
use Rattle.task_reading.specs.Jobs.{Job}
use Rattle.task_reading.specs.declared.words.FileOption.{FileOption}
use Rattle.task_reading.specs.declared.types.AskError.{AskError}
use Rattle.task_reading.proofs.ReadLemmas.{relations, payloads_of, scenario_by, jobs_by, read_whole_run, kept_names, kept_twice}
use Rattle.task_reading.proofs.Preparing.{file_task, no_payloads, no_scenario, no_jobs, all_read}

-- what the first call read is read in the run
first : {I : Type 0} {holds : I → List ℕ → Option (List ℕ)} {is_sound : I → List ℕ → Type 0} {faults : I → ℕ} (a b z : I) → KeepsNames holds is_sound faults a b → faults b ≤ faults z → (name read : Option (List ℕ))
    → IsReadAs (source_of holds is_sound faults a b) name read → IsReadAs (source_of holds is_sound faults a z) name read
first {holds} {is_sound} {faults} a b z keeps later name read h = read_whole_run {holds = holds} {is_sound = is_sound} {faults = faults} a a b z (kept_names a) later name read h

module _ {I : Type 0} {holds : I → List ℕ → Option (List ℕ)} {is_sound : I → List ℕ → Type 0} {faults : I → ℕ} where
  pub payloads_error : {a b c : I} → KeepsNames holds is_sound faults a b → KeepsNames holds is_sound faults b c → (rel : List ℕ) (vrps scenario named : Option (List ℕ)) (option : FileOption) (links : LinkMap) (s : AskError)
      → ReadsAs (source_of holds is_sound faults a b) (Some rel) (λ (links : LinkMap). links) (Ok links) (λ reads. relations (reads file.Relations))
      → ReadsAs (source_of holds is_sound faults b c) vrps (λ (payloads : Payloads). payloads) (Err s) (λ reads. payloads_of (reads file.Payloads))
      → Prepares (source_of holds is_sound faults a c) (Some (file_form rel vrps scenario named option)) (Err s)
  payloads_error {a} {b} {c} p q rel vrps scenario named option links s f g =
      no_payloads rel vrps scenario named option f.read g.read links s
      (first a b c p q.later (Some rel) f.read f.is_read) f.finds
      (read_whole_run a b c c p (omega arith) vrps g.read g.is_read) g.finds

  pub scenario_error : {a b c d : I} → KeepsNames holds is_sound faults a b → KeepsNames holds is_sound faults b c → KeepsNames holds is_sound faults c d
      → (rel : List ℕ) (vrps scenario named : Option (List ℕ)) (option : FileOption) (links : LinkMap) (payloads : Payloads) (s : AskError)
      → ReadsAs (source_of holds is_sound faults a b) (Some rel) (λ (links : LinkMap). links) (Ok links) (λ reads. relations (reads file.Relations))
      → ReadsAs (source_of holds is_sound faults b c) vrps (λ (payloads : Payloads). payloads) (Ok payloads) (λ reads. payloads_of (reads file.Payloads))
      → ReadsAs (source_of holds is_sound faults c d) scenario (λ (plan : ScenarioValue). plan) (Err s) (λ reads. scenario_by scenario (reads file.Scenario))
      → Prepares (source_of holds is_sound faults a d) (Some (file_form rel vrps scenario named option)) (Err s)
  scenario_error {a} {b} {c} {d} p q r rel vrps scenario named option links payloads s f g h =
      no_scenario rel vrps scenario named option f.read g.read h.read links payloads s
      (first a b d p (omega (arith, q.later, r.later)) (Some rel) f.read f.is_read) f.finds
      (read_whole_run a b c d p r.later vrps g.read g.is_read) g.finds
      (read_whole_run a c d d (kept_twice a b c p q) (omega arith) scenario h.read h.is_read) h.finds

  pub jobs_error : {a b c d e : I} → KeepsNames holds is_sound faults a b → KeepsNames holds is_sound faults b c → KeepsNames holds is_sound faults c d → KeepsNames holds is_sound faults d e
      → (rel : List ℕ) (vrps scenario named : Option (List ℕ)) (option : FileOption) (links : LinkMap) (payloads : Payloads) (plan : ScenarioValue) (s : AskError)
      → ReadsAs (source_of holds is_sound faults a b) (Some rel) (λ (links : LinkMap). links) (Ok links) (λ reads. relations (reads file.Relations))
      → ReadsAs (source_of holds is_sound faults b c) vrps (λ (payloads : Payloads). payloads) (Ok payloads) (λ reads. payloads_of (reads file.Payloads))
      → ReadsAs (source_of holds is_sound faults c d) scenario (λ (plan : ScenarioValue). plan) (Ok plan) (λ reads. scenario_by scenario (reads file.Scenario))
      → ReadsAs (source_of holds is_sound faults d e) named (λ (jobs : List Job). jobs) (Err s) (λ reads. jobs_by option (reads file.Asked))
      → Prepares (source_of holds is_sound faults a e) (Some (file_form rel vrps scenario named option)) (Err s)
  jobs_error {a} {b} {c} {d} {e} p q r t rel vrps scenario named option links payloads plan s f g h k =
      no_jobs rel vrps scenario named option f.read g.read h.read k.read links payloads plan s
      (first a b e p (omega (arith, q.later, r.later, t.later)) (Some rel) f.read f.is_read) f.finds
      (read_whole_run a b c e p (omega (arith, r.later, t.later)) vrps g.read g.is_read) g.finds
      (read_whole_run a c d e (kept_twice a b c p q) t.later scenario h.read h.is_read) h.finds
      (read_whole_run a d e e (kept_twice a c d (kept_twice a b c p q) r) (omega arith) named k.read k.is_read) k.finds

  pub all_found : {a b c d e : I} → KeepsNames holds is_sound faults a b → KeepsNames holds is_sound faults b c → KeepsNames holds is_sound faults c d → KeepsNames holds is_sound faults d e
      → (rel : List ℕ) (vrps scenario named : Option (List ℕ)) (option : FileOption) (links : LinkMap) (payloads : Payloads) (plan : ScenarioValue) (jobs : List Job) (x : Asked)
      → ReadsAs (source_of holds is_sound faults a b) (Some rel) (λ (links : LinkMap). links) (Ok links) (λ reads. relations (reads file.Relations))
      → ReadsAs (source_of holds is_sound faults b c) vrps (λ (payloads : Payloads). payloads) (Ok payloads) (λ reads. payloads_of (reads file.Payloads))
      → ReadsAs (source_of holds is_sound faults c d) scenario (λ (plan : ScenarioValue). plan) (Ok plan) (λ reads. scenario_by scenario (reads file.Scenario))
      → ReadsAs (source_of holds is_sound faults d e) named (λ (jobs : List Job). jobs) (Ok jobs) (λ reads. jobs_by option (reads file.Asked))
      → x ≡ file_task links payloads plan jobs
      → Prepares (source_of holds is_sound faults a e) (Some (file_form rel vrps scenario named option)) (Ok x)
  all_found {a} {b} {c} {d} {e} p q r t rel vrps scenario named option links payloads plan jobs x f g h k is =
      all_read rel vrps scenario named option f.read g.read h.read k.read links payloads plan jobs x
      (first a b e p (omega (arith, q.later, r.later, t.later)) (Some rel) f.read f.is_read) f.finds
      (read_whole_run a b c e p (omega (arith, r.later, t.later)) vrps g.read g.is_read) g.finds
      (read_whole_run a c d e (kept_twice a b c p q) t.later scenario h.read h.is_read) h.finds
      (read_whole_run a d e e (kept_twice a c d (kept_twice a b c p q) r) (omega arith) named k.read k.is_read) k.finds is
