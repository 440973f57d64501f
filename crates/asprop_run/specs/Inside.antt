-- That jobs have answers.
use Rattle.std.specs.Prelude.{◌≡◌, ◌<◌, Bool, true, List, [], ◌∷◌, None}
use Rattle.clap.specs.Walk.{Text}
use Rattle.as_graph.specs.Topology.{as_count}
use Rattle.sim_core.specs.World.{HasCycle, World, topology}
use Rattle.asprop_run.specs.Replies.{AnswersJob}
use Rattle.asprop_run.specs.Task.{outside}
use Rattle.task_reading.specs.Jobs.{Job, acts_job, messages_job, sweep_job, tables_job}
use Rattle.trial_world.specs.Sweeps.{is_inside}

-- what activations or deliveries name is in the world, which has an AS, and so are the sections of a printed table; what a sweep asks for is in the world, which has no provider cycle; of lines nothing is asked
abbrev pub IsInside : World → Job → Type 0
IsInside w (acts_job acts) = (outside w (acts_job acts ∷ []) ≡ None) × (0 < as_count (topology w))
IsInside w (messages_job d) = (outside w (messages_job d ∷ []) ≡ None) × (0 < as_count (topology w))
IsInside w (sweep_job line) = (is_inside w line ≡ true) × (HasCycle w → ⊥)
IsInside w (tables_job t) = outside w (tables_job t ∷ []) ≡ None
IsInside w _ = Unit {0}

-- so of each job, in the world that the jobs before it leave
abbrev pub AreInside : World → List Job → Type 0
AreInside w [] = Unit {0}
AreInside w (job ∷ jobs) = IsInside w job × ((text : Text) (refused : Bool) (after : World) → AnswersJob w job text refused after → AreInside after jobs)
