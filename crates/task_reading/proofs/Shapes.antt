-- The jobs of what is kept are alike.
use Rattle.std.proofs.Common.{◌≡◌, inl, inr, Bool, true, false, All, List, [], ◌∷◌, ◌++◌, cond, map, refl}
use Rattle.std.proofs.lemmas.List.Elements.{All-cons, All-nil}
use Rattle.scenario_text.specs.LineValues.{LineValue}
use Rattle.task_reading.specs.Jobs.{AreAlike, IsOfLines, Job, acts_job, counts_job, jobs_of, line_job, messages_job, needs_of, sweep_job, tables_job}
use Rattle.task_reading.specs.declared.jobs.Asks.{Asks}
use Rattle.task_reading.specs.declared.jobs.Asks.TheVariants as asks
use Rattle.task_reading.specs.declared.jobs.Needs.{Needs}
use Rattle.task_reading.specs.declared.jobs.Needs.TheVariants as needs
use Rattle.sweep.specs.declared.sweeps.Sweep.{Sweep}

of_lines : (heads : Bool) (lines : List LineValue) → All IsOfLines (map (line_job heads) lines)
of_lines heads [] = All-nil IsOfLines
of_lines heads (line ∷ lines) = All-cons IsOfLines (line_job heads line) (map (line_job heads) lines) tt (of_lines heads lines)

of_asked : (counts heads : Bool) (lines : List LineValue) → All IsOfLines (cond counts (counts_job ∷ []) [] ++ map (line_job heads) lines)
of_asked true heads lines = All-cons IsOfLines counts_job (map (line_job heads) lines) tt (of_lines heads lines)
of_asked false heads lines = of_lines heads lines

pub alike : (a : Asks) → AreAlike (jobs_of a)
alike (asks.Lines asked) = inl (of_asked asked.counts_first asked.heads asked.lines)
alike (asks.Activations acts) = inr (inr (acts_job acts, refl))
alike (asks.Messages deliveries) = inr (inr (messages_job deliveries, refl))
alike (asks.Sweeps sweeps) = inr (inl (sweeps, refl))
alike (asks.Tables tables) = inr (inr (tables_job tables, refl))

lines_need : (heads : Bool) (lines : List LineValue) → All (λ job. needs_of job ≡ needs.Kept) (map (line_job heads) lines)
lines_need heads [] = All-nil (λ job. needs_of job ≡ needs.Kept)
lines_need heads (line ∷ lines) = All-cons (λ job. needs_of job ≡ needs.Kept) (line_job heads line) (map (line_job heads) lines) refl (lines_need heads lines)

asked_need : (counts heads : Bool) (lines : List LineValue) → All (λ job. needs_of job ≡ needs.Kept) (cond counts (counts_job ∷ []) [] ++ map (line_job heads) lines)
asked_need true heads lines = All-cons (λ job. needs_of job ≡ needs.Kept) counts_job (map (line_job heads) lines) refl (lines_need heads lines)
asked_need false heads lines = lines_need heads lines

sweeps_need : (lines : List Sweep) → All (λ job. needs_of job ≡ needs.Ranks) (map sweep_job lines)
sweeps_need [] = All-nil (λ job. needs_of job ≡ needs.Ranks)
sweeps_need (line ∷ lines) = All-cons (λ job. needs_of job ≡ needs.Ranks) (sweep_job line) (map sweep_job lines) refl (sweeps_need lines)

alone : (job : Job) → All (λ j. needs_of j ≡ needs_of job) (job ∷ [])
alone job = All-cons (λ j. needs_of j ≡ needs_of job) job [] refl (All-nil (λ j. needs_of j ≡ needs_of job))

-- what of a world the answers to what is kept so are made from
abbrev pub asks_need : Asks → Needs
asks_need (asks.Sweeps sweeps) = needs.Ranks
asks_need (asks.Tables tables) = needs.World
asks_need _ = needs.Kept

pub need_alike : (a : Asks) → All (λ job. needs_of job ≡ asks_need a) (jobs_of a)
need_alike (asks.Lines asked) = asked_need asked.counts_first asked.heads asked.lines
need_alike (asks.Activations acts) = alone (acts_job acts)
need_alike (asks.Messages deliveries) = alone (messages_job deliveries)
need_alike (asks.Sweeps sweeps) = sweeps_need sweeps
need_alike (asks.Tables tables) = alone (tables_job tables)
