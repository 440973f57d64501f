-- That each task that is accepted is answered.
use Rattle.std.specs.Prelude.{◌≡◌, Bool, List, Option, Ok}
use Rattle.clap.specs.Walk.{Text}
use Rattle.stability_laws.specs.Plans.{IsSound}
use Rattle.sim_core.specs.World.{HasCycle, World}
use Rattle.task_reading.specs.Jobs.{Job}
use Rattle.task_reading.specs.Words.{Form}
use Rattle.task_reading.specs.declared.types.File.{File}
use Rattle.asprop_run.specs.Inside.{AreInside}
use Rattle.asprop_run.specs.Laws.{AreOneByJob}
use Rattle.asprop_run.specs.Replies.{AnswersJobs}
use Rattle.asprop_run.specs.Task.{HasAnswers, Task, task_of}

-- jobs have an answer where the world has no provider cycle, and has all that they name (own format)
abbrev pub JobsHaveAnswers : Type 0
JobsHaveAnswers = (w : World) (jobs : List Job) → (HasCycle w → ⊥) → AreInside w jobs → (text : Text) × (refused : Bool) × AnswersJobs w jobs text refused

-- a task that words and files give, and that has answers, is answered by some text (own format; Gao and Rexford 2001)
abbrev pub TasksHaveAnswers : Type 0
TasksHaveAnswers = (form : Option Form) (reads : File → Option Text) (t : Task) → task_of form reads ≡ Ok t → HasAnswers t → (text : Text) × (refused : Bool) × AnswersJobs t.world t.jobs text refused

-- such a task has one answer: each text that answers it is that one job by job, but where both refuse the same link for
-- a provider cycle, of which there may be several, and agrees on whether an answer is a refusal (own format; Gao and
-- Rexford 2001)
abbrev pub TasksHaveOneAnswer : Type 0
TasksHaveOneAnswer = (form : Option Form) (reads : File → Option Text) (t : Task) → task_of form reads ≡ Ok t → HasAnswers t →
    (text : Text) × (refused : Bool) × AnswersJobs t.world t.jobs text refused
    × ((other : Text) (also : Bool) → AnswersJobs t.world t.jobs other also → (also ≡ refused) × AreOneByJob t.world t.jobs other text)

-- the plan of the world of a task that words and files give is sound: each announced path starts with its AS, and
-- nobody leaks in round 1 (own format)
abbrev pub TaskPlansAreSound : Type 0
TaskPlansAreSound = (form : Option Form) (reads : File → Option Text) (t : Task) → task_of form reads ≡ Ok t → IsSound t.world.plan
