-- What was written of the answers.
use Rattle.std.specs.Prelude.{◌≡◌, ℕ, ◌∷◌, ◌++◌, [], Bool, List, Option, drop, take, Result, Ok, Err}
use Rattle.clap.specs.Walk.{Text}
use Rattle.io_edge.specs.Bytes.{Appends}
use Rattle.asprop_run.specs.Streams.{Stream}
use Rattle.asprop_run.specs.Task.{Task}
use Rattle.task_reading.specs.Jobs.{Job, sweep_job}
use Rattle.trial_world.specs.Sweeps.{IsBegunIn}
use Rattle.sim_core.specs.World.{World}
use Rattle.asprop_run.specs.Replies.{AnswersJobs}
use Rattle.asprop_run.specs.declared.types.Failure.{Failure}
use Rattle.asprop_run.specs.declared.types.Failure.TheVariants as failure

-- the answers to these jobs were written so
abbrev pub Wrote : World → List Job → Bool → (Text → Type 0) → Type 0
Wrote w jobs refused how = (text : Text) × AnswersJobs w jobs text refused × how text

-- a text begins the answer to the first of these jobs: of a sweep it is the rows of some trials, from the first on, and of another job it is nothing
abbrev pub Begins : World → List Job → Text → Type 0
Begins w (sweep_job line ∷ jobs) text = IsBegunIn w line text
Begins w jobs text = text ≡ []

-- the answers to some jobs in front were written so, and behind them what begins the answer to the next one; a sweep stands among sweeps alone, and these leave the world
abbrev pub WroteSome : Task → (Text → Type 0) → Type 0
WroteSome t how = (count : ℕ) × (refused : Bool) × Wrote t.world (take count t.jobs) refused (λ text. (more : Text) × Begins t.world (drop count t.jobs) more × how (text ++ more))

-- how answering ends
abbrev pub Answering : Task → Result Bool Failure → Stream → Type 0
Answering t (Ok refused) out = Wrote t.world t.jobs refused out.wrote
Answering t (Err failure.Memory) out = WroteSome t out.wrote
Answering t (Err failure.Write) out = WroteSome t out.failed
Answering t (Err _) out = ⊥

-- of what was held back and a text behind it, a front was written, and the rest is held back
pub record IsPassedOn (old new : Option (List ℕ)) (held text now : List ℕ) : Type 0 where
  pub written : List ℕ
  pub appends : Appends old new written
  pub whole : written ++ now ≡ held ++ text
