-- What is asked in a world: jobs, one after the other.
use Rattle.std.specs.Prelude.{◌≡◌, ◌≤◌, ◌⊎◌, All, Bool, length, List, [], ◌∷◌, ◌++◌, if◌then◌else◌, map}
use Rattle.activations.specs.Named.{AreSound}
use Rattle.activations.specs.declared.acts.Acts.{Acts}
use Rattle.message_sim.specs.declared.steps.Deliveries.{Deliveries}
use Rattle.scenario_text.specs.LineValues.{IsSoundAct, LineValue}
use Rattle.sweep.specs.declared.sweeps.Sweep.{Sweep as ASweep}
use Rattle.sweep.specs.declared.sweeps.TheConstants.{MOST_SWEEPS}
use Rattle.table_check.specs.declared.tables.Tables.{Tables as PrintedTables}
use Rattle.task_reading.specs.declared.jobs.Asks.{Asks}
use Rattle.task_reading.specs.declared.jobs.Asks.TheVariants.{Lines, Activations, Messages, Sweeps, Tables}
use Rattle.task_reading.specs.declared.jobs.Job.{Job as LentJob}
use Rattle.task_reading.specs.declared.jobs.Job.TheVariants as lent
use Rattle.task_reading.specs.declared.jobs.LinesAsked.{LinesAsked}
use Rattle.task_reading.specs.declared.jobs.Needs.{Needs}
use Rattle.task_reading.specs.declared.jobs.Needs.TheVariants as needs

-- a job has one answer: the numbers of ASes and links; the answer to a line, with its number before it or without; what activations of ASes in turn, or deliveries of messages, come to; the trials of a sweep; or whether a printed table is right (own format)
pub data Job : Type 0 where
  counts_job : Job
  line_job : (heads : Bool) (line : LineValue) → Job
  acts_job : (acts : Acts) → Job
  messages_job : (deliveries : Deliveries) → Job
  sweep_job : (line : ASweep) → Job
  tables_job : (tables : PrintedTables) → Job

-- the jobs of lines, and before them the numbers of ASes and links, if they come first
abbrev pub line_jobs : LinesAsked → List Job
line_jobs asked = (if asked.counts_first then counts_job ∷ [] else []) ++ map (line_job asked.heads) asked.lines

-- the jobs that are kept so
abbrev pub jobs_of : Asks → List Job
jobs_of (Lines asked) = line_jobs asked
jobs_of (Activations acts) = acts_job acts ∷ []
jobs_of (Messages deliveries) = messages_job deliveries ∷ []
jobs_of (Sweeps sweeps) = map sweep_job sweeps
jobs_of (Tables tables) = tables_job tables ∷ []

-- a job that is lent
abbrev pub job_seen : LentJob → Job
job_seen lent.Counts = counts_job
job_seen (lent.Line heads line) = line_job heads line.now
job_seen (lent.Activations acts) = acts_job acts.now
job_seen (lent.Messages deliveries) = messages_job deliveries.now
job_seen (lent.Sweep line) = sweep_job line.now
job_seen (lent.Tables tables) = tables_job tables.now

-- what is kept of activations is sound, and there are no more sweeps than a file may have
abbrev pub IsSoundAsks : Asks → Type 0
IsSoundAsks (Activations acts) = AreSound acts
IsSoundAsks (Sweeps sweeps) = length sweeps ≤ MOST_SWEEPS
IsSoundAsks _ = Unit {0}

-- what a line asks for and what a file of activations says are sound
abbrev pub IsSoundJob : Job → Type 0
IsSoundJob (line_job heads line) = IsSoundAct line.act
IsSoundJob (acts_job acts) = AreSound acts
IsSoundJob _ = Unit {0}

-- what of a world the answer is made from
abbrev pub needs_of : Job → Needs
needs_of (sweep_job line) = needs.Ranks
needs_of (tables_job tables) = needs.World
needs_of _ = needs.Kept

-- the job is that of a line, or the numbers of ASes and links
abbrev pub IsOfLines : Job → Type 0
IsOfLines counts_job = Unit {0}
IsOfLines (line_job heads line) = Unit {0}
IsOfLines _ = ⊥

-- jobs are those of lines, or all are sweeps, or there is one alone
abbrev pub AreAlike : List Job → Type 0
AreAlike jobs = All IsOfLines jobs ⊎ (((lines : List ASweep) × (jobs ≡ map sweep_job lines)) ⊎ ((job : Job) × (jobs ≡ job ∷ [])))
