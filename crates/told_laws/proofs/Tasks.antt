-- Activations that are a task's one job are those of a file.
use Rattle.std.proofs.Common.{◌≡◌, ℕ, Bool, true, false, List, [], ◌∷◌, map, Option, Some, None, Ok, sym, ◌∙◌, ap}
use Rattle.clap.specs.Walk.{Text}
use Rattle.net_names.specs.Lines.{kept_from}
use Rattle.activations.specs.Files.{acts_by}
use Rattle.activations.specs.declared.acts.Acts.{Acts}
use Rattle.task_reading.specs.Asking.{jobs_in}
use Rattle.task_reading.specs.Jobs.{Job, acts_job, line_job, sweep_job}
use Rattle.task_reading.specs.Words.{Form, demo_form, file_form, origin_form}
use Rattle.task_reading.specs.declared.asking.Asked.{Asked}
use Rattle.task_reading.specs.declared.types.File.{File}
use Rattle.task_reading.specs.declared.words.FileOption.{FileOption}
use Rattle.task_reading.specs.declared.words.FileOption.TheVariants.{Script, Activations, Messages, Sweep, Check}
use Rattle.asprop_run.specs.Task.{Task, task_of}
use Rattle.answers_exist.proofs.Asked.{IsAskedBy, asked_for, both_ok}

is_acts : Job → Bool
is_acts (acts_job acts) = true
is_acts job = false

first_acts : List Job → Bool
first_acts [] = false
first_acts (job ∷ jobs) = is_acts job

acts_or : Acts → Job → Acts
acts_or other (acts_job acts) = acts
acts_or other job = other

first_or : Acts → List Job → Acts
first_or other [] = other
first_or other (job ∷ jobs) = acts_or other job

acts_in : (option : FileOption) (text : Text) (jobs : List Job) (acts : Acts) → jobs_in option text ≡ Ok jobs → jobs ≡ acts_job acts ∷ [] → acts_by (kept_from 1 text) ≡ Ok acts
unfolding first_acts is_acts first_or acts_or
acts_in Script text jobs acts e is = let (lines, read, same) = both_ok _ _ _ jobs e in absurd (no lines (sym same ∙ is))
  where
    no : (lines : List _) → map (line_job true) lines ≡ acts_job acts ∷ [] → ⊥
    no [] h = cc
    no (l ∷ ls) h = let t : false ≡ true = ap first_acts h in cc
acts_in Activations text jobs acts e is = let (found, read, same) = both_ok _ _ _ jobs e in read ∙ ap (λ (js : List Job). Ok (first_or acts js)) (sym same ∙ is)
acts_in Messages text jobs acts e is = let (d, read, same) = both_ok _ _ _ jobs e in absurd (let t : false ≡ true = ap first_acts (sym same ∙ is) in cc)
acts_in Sweep text jobs acts e is = let (sweeps, read, same) = both_ok _ _ _ jobs e in absurd (no sweeps (sym same ∙ is))
  where
    no : (sweeps : List _) → map sweep_job sweeps ≡ acts_job acts ∷ [] → ⊥
    no [] h = cc
    no (l ∷ ls) h = let t : false ≡ true = ap first_acts h in cc
acts_in Check text jobs acts e is = let (d, read, same) = both_ok _ _ _ jobs e in absurd (let t : false ≡ true = ap first_acts (sym same ∙ is) in cc)

-- activations that are a task's one job are those of a file
pub acts_of_task : (form : Option Form) (reads : File → Option Text) (t : Task) (acts : Acts) → task_of form reads ≡ Ok t → t.jobs ≡ acts_job acts ∷ [] → (text : Text) × (acts_by (kept_from 1 text) ≡ Ok acts)
unfolding first_acts is_acts
acts_of_task form reads t acts e is = let (x, asked, w, jobs) = asked_for form reads t e in by form x asked (sym jobs ∙ is)
  where
    by : (form : Option Form) (x : Asked) → IsAskedBy form x → x.jobs ≡ acts_job acts ∷ [] → (text : Text) × (acts_by (kept_from 1 text) ≡ Ok acts)
    by None x asked is = absurd asked
    by (Some (demo_form n)) x asked is = absurd (let t : false ≡ true = ap (λ (y : Asked). first_acts y.jobs) asked ∙ ap first_acts is in cc)
    by (Some (origin_form rel origin)) x asked is = absurd (let t : false ≡ true = ap (λ (y : Asked). first_acts y.jobs) asked.3 ∙ ap first_acts is in cc)
    by (Some (file_form rel vrps scenario name option)) x asked is = (asked.text, acts_in option asked.text x.jobs acts asked.jobs is)
