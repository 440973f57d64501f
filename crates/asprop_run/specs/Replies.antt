-- What is written for a task.
use Rattle.std.specs.Prelude.{◌≡◌, ◌||◌, ℕ, Bool, true, false, Some, None, List, [], ◌∷◌, ◌++◌, codes, if◌then◌else◌, decimal}
use Rattle.std.specs.FinMap as fin
use Rattle.clap.specs.Walk.{Text}
use Rattle.scenario_text.specs.declared.acts.Act.{Act}
use Rattle.scenario_text.specs.declared.acts.Act.TheVariants.{Edit, Query}
use Rattle.sim_core.specs.World.{World, topology}
use Rattle.sim_core.specs.Kept.{Kept, IsKept}
use Rattle.sim_core.specs.Answers.{IsAnswer, refusal_of}
use Rattle.sim_core.specs.Edits.{HasChanges, IsAllowed, IsReason, edited}
use Rattle.sim_core.specs.declared.errors.EditError.{EditError}
use Rattle.sim_core.specs.declared.errors.QueryError.{QueryError}
use Rattle.as_graph.specs.Topology.{as_count}
use Rattle.task_reading.specs.Jobs.{Job, acts_job, counts_job, line_job, messages_job, sweep_job, tables_job}
use Rattle.trial_world.specs.Sweeps.{IsSweptIn}
use Rattle.asprop_run.specs.Checking.{IsCheckText}
use Rattle.asprop_run.specs.Delivering.{IsNetText}
use Rattle.asprop_run.specs.Refusals.{edit_refusal, refusal_text}
use Rattle.asprop_run.specs.Settling.{IsActsText, fact}

-- the text is what is told for what a line asks, and the world after it: a query is answered, or refused for its reason; an edit that is allowed leaves the edited world, and the text says how many entries of the one family of routings differ from those of the one family after it; one that is refused says why, and the world stays (own format)
abbrev pub IsReply : World → Kept → Act → Text → Bool → World → Type 0
IsReply w k (Query q) text false after = (refusal_of w q ≡ None) × IsAnswer w k q text × (after ≡ w)
IsReply w k (Query q) text true after = (e : QueryError) × (refusal_of w q ≡ Some e) × (text ≡ refusal_text e) × (after ≡ w)
IsReply w k (Edit e) text false after = IsAllowed w e × (after ≡ edited w e) × (now : Kept)
    × IsKept after now × (n : ℕ) × HasChanges after.plan after.rounds k.routings now.routings n
    × (text ≡ codes "ok " ++ (decimal n ++ 10 ∷ []))
IsReply w k (Edit e) text true after = (error : EditError) × IsReason w e error × (text ≡ edit_refusal error) × (after ≡ w)

-- the reply to what a line asks was appended (own format)
pub record AppendsReply (w : World) (kept : Kept) (asks : Act) (refused : Bool) (old new : Text) (after : World) : Type 0 where
  pub text : Text
  pub reply : IsReply w kept asks text refused after
  pub appended : new ≡ old ++ text

-- the head line of an answer, if there are head lines: `# ` and the line's number (own format)
abbrev pub head : Bool → ℕ → Text
head heads number = if heads then codes "# " ++ (decimal number ++ 10 ∷ []) else []

-- the text is the whole answer to the job, by the one and only stable routings of the world's rounds and by the ranks of its ASes, and the job leaves this world: the numbers of ASes and links; the head line and what is told for a line; what activations or deliveries come to; the counts of the trials of a sweep; or whether a printed table is right, where one that is not is refused (own format; Gao and Rexford 2001)
abbrev pub AnswersJob : World → Job → Text → Bool → World → Type 0
AnswersJob w counts_job text refused new = (refused ≡ false) × (new ≡ w)
    × (text ≡ fact "ases" (as_count (topology w)) ++ fact "links" (fin.len w.links))
AnswersJob w (line_job heads line) text refused new = (k : Kept) × IsKept w k × (answer : Text)
    × IsReply w k line.act answer refused new × (text ≡ head heads line.number ++ answer)
AnswersJob w (acts_job a) text refused new = (refused ≡ false) × (new ≡ w) × IsActsText w a text
AnswersJob w (messages_job d) text refused new = (refused ≡ false) × (new ≡ w) × IsNetText w d text
AnswersJob w (sweep_job s) text refused new = (refused ≡ false) × (new ≡ w) × IsSweptIn w s text
AnswersJob w (tables_job t) text refused new = (new ≡ w) × IsCheckText w t refused text

-- the text answers the jobs one after the other, each in the world that the jobs before it leave; `refused` says whether an answer is a refusal (own format)
abbrev pub AnswersJobs : World → List Job → Text → Bool → Type 0
AnswersJobs w [] text refused = (text ≡ []) × (refused ≡ false)
AnswersJobs w (job ∷ jobs) text refused = (s t : Text) × (p q : Bool) × (new : World)
    × AnswersJob w job s p new × AnswersJobs new jobs t q × (text ≡ s ++ t) × (refused ≡ (p || q))
