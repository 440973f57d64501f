-- The task that the words and the files give, or the first fault.
use Rattle.std.specs.Prelude.{◌≡◌, ◌&&◌, ℕ, false, find, is_none, not, nat_lt, List, ◌∷◌, slice_get, None, Some, Option, option_map, Result, Ok, Err, if◌then◌else◌}
use Rattle.std.specs.Option.{option_map_or}
use Rattle.clap.specs.Walk.{Text}
use Rattle.as_graph.specs.Topology.{as_count, has, relation}
use Rattle.as_graph.specs.declared.build.TheConstants.{MOST_ASES}
use Rattle.scenario_text.specs.Walks.{◌>>=◌}
use Rattle.sim_core.specs.Loaded.{world_of}
use Rattle.sim_core.specs.World.{HasCycle, World, has_round, topology}
use Rattle.stability_laws.specs.Plans.{has_prefix}
use Rattle.task_reading.specs.Asking.{asked}
use Rattle.task_reading.specs.Jobs.{Job, acts_job, messages_job, sweep_job, tables_job}
use Rattle.trial_world.specs.Sweeps.{is_inside}
use Rattle.task_reading.specs.Words.{Form}
use Rattle.task_reading.specs.declared.types.File.{File}
use Rattle.task_reading.specs.declared.types.Fault.{Fault}
use Rattle.task_reading.specs.declared.types.Fault.TheVariants.{TooManyAses}

-- a world, and the jobs that are done in it one after the other
abbrev pub Task : Type 0
Task = record { world : World; jobs : List Job }

-- the task of a form and of what was read of the files, in the world of what they ask for, if that has at most 150000 ASes, or the first fault
abbrev pub task_of : Option Form → (File → Option Text) → Result Task Fault
task_of form reads = asked form reads >>= λ a. let world = world_of a.links a.vrps a.scenario in
    if nat_lt MOST_ASES (as_count (topology world)) then Err TooManyAses else Ok (record { world = world; jobs = a.jobs })

-- the first line of an option's file that names what the world has not: its round or its prefix, an AS, a link, or what a sweep asks for (own format)
abbrev pub outside : World → List Job → Option ℕ
outside w (acts_job a ∷ jobs) = if has_round w a.round && has_prefix w.plan a.prefix
    then option_map (λ x. x.0) (find (λ x. not (has (topology w) x.1)) a.named) else Some a.for_line
outside w (messages_job d ∷ jobs) = if has_round w d.round && has_prefix w.plan d.prefix
    then option_map (λ s. s.line) (find (λ s. option_map_or
    (λ l. is_none (relation (topology w) l.1 l.0)) s.link false) d.steps) else Some d.for_line
outside w (sweep_job line ∷ jobs) = if is_inside w line then outside w jobs else Some line.line
outside w (tables_job t ∷ jobs) = slice_get t.starts (if has_prefix w.plan t.prefix then w.rounds else 0)
outside w jobs = None

-- the task has answers: its world has no provider cycle, and has all that is named
abbrev pub HasAnswers : Task → Type 0
HasAnswers t = (HasCycle t.world → ⊥) × (outside t.world t.jobs ≡ None)
