-- What activations that were read name, and where they end.
use Rattle.std.specs.Prelude.{◌≡◌, ◌≤◌, ◌+◌, ℕ, Bool, true, false, List, [], ◌∷◌, ◌++◌, Option, None, Some, Ok}
use Rattle.std.specs.FinMap as map
use Rattle.clap.specs.Walk.{Text}
use Rattle.net_names.specs.Lines.{kept_from}
use Rattle.net_names.specs.Numbers.{occurs}
use Rattle.scenario_text.specs.declared.acts.Act.TheVariants as act
use Rattle.scenario_text.specs.declared.acts.Query.TheVariants.{Routes}
use Rattle.as_graph.specs.Topology.{has}
use Rattle.stability_laws.specs.declared.entry.Entry.{Entry}
use Rattle.stability_laws.specs.Laws.{IsHeight}
use Rattle.activations.specs.Files.{acts_by}
use Rattle.activations.specs.Named.{asns_of}
use Rattle.activations.specs.Pieces.{IsMostPieces}
use Rattle.activations.specs.declared.acts.Acts.{Acts}
use Rattle.sim_core.specs.World.{HasCycle, World, topology}
use Rattle.task_reading.specs.Jobs.{acts_job, line_job}
use Rattle.task_reading.specs.Words.{Form}
use Rattle.task_reading.specs.declared.types.File.{File}
use Rattle.asprop_run.specs.Replies.{AnswersJob, AnswersJobs}
use Rattle.asprop_run.specs.Settling.{acts_rows}
use Rattle.asprop_run.specs.Task.{HasAnswers, Task, outside, task_of}

-- who holds something or is activated is named by a line (own format)
pub record AreNamed (acts : Acts) : Type 0 where
  pub held : (a : ℕ) (e : Entry) → map.get acts.held a ≡ Some e → occurs a (asns_of acts.named) ≡ true
  pub list : (a : ℕ) → occurs a acts.list ≡ true → occurs a (asns_of acts.named) ≡ true

-- in activations that a file says, who holds something or is activated is named by a line (own format)
abbrev pub ActsAreNamed : Type 0
ActsAreNamed = (bytes : List ℕ) (acts : Acts) → acts_by (kept_from 1 bytes) ≡ Ok acts → AreNamed acts

-- activations with twice as many full pieces as the longest chain has ASes end in the routing that is kept: their text
-- is the rows of the query for the routes of the round and the prefix, and then says that the routing is stable, where
-- all that they name is in the world and who acts is named by a line (Gao and Rexford 2001)
abbrev pub NamedOrdersSettle : Type 0
NamedOrdersSettle = (w after later : World) (acts : Acts) (pieces height number : ℕ) (text routes : Text) (refused other : Bool) →
    (HasCycle w → ⊥) → outside w (acts_job acts ∷ []) ≡ None → AreNamed acts → IsMostPieces (has (topology w)) acts.list pieces → IsHeight (topology w) height → height + height ≤ pieces →
    AnswersJob w (acts_job acts) text refused after → AnswersJob w (line_job false (record { number = number; act = act.Query (Routes acts.round acts.prefix) })) routes other later →
    text ≡ routes ++ acts_rows pieces height true

-- a task of activations that words and files give, and that has answers, is answered so, where they have twice as many
-- full pieces as the longest chain of its world has ASes (Gao and Rexford 2001)
abbrev pub ToldOrdersSettle : Type 0
ToldOrdersSettle = (form : Option Form) (reads : File → Option Text) (t : Task) (acts : Acts) (later : World) (pieces height number : ℕ) (text routes : Text) (refused other : Bool) →
    task_of form reads ≡ Ok t → t.jobs ≡ acts_job acts ∷ [] → HasAnswers t → IsMostPieces (has (topology t.world)) acts.list pieces → IsHeight (topology t.world) height → height + height ≤ pieces →
    AnswersJobs t.world t.jobs text refused → AnswersJob t.world (line_job false (record { number = number; act = act.Query (Routes acts.round acts.prefix) })) routes other later →
    text ≡ routes ++ acts_rows pieces height true
