-- What holds of all runs, and of all told texts.
use Rattle.std.specs.Prelude.{◌≡◌, ◌↔◌, ◌≤◌, ◌<◌, ◌+◌, ◌*◌, ◌^◌, ◌⊎◌, ℕ, zero, suc, Bool, true, false, not, filter, length, List, map, [], ◌∷◌, ◌++◌, Option, Some, Ok}
use Rattle.std.specs.Option.{is_some}
use Rattle.clap.specs.Walk.{Text}
use Rattle.scenario_text.specs.declared.acts.Act.TheVariants as act
use Rattle.scenario_text.specs.declared.acts.Edit.{Edit}
use Rattle.scenario_text.specs.declared.acts.Query.TheVariants.{Routes}
use Rattle.activations.specs.Named.{AreSound}
use Rattle.activations.specs.Pieces.{IsMostPieces}
use Rattle.activations.specs.declared.acts.Acts.{Acts}
use Rattle.as_graph.specs.Topology.{as_count, has}
use Rattle.message_sim.specs.Turns.{turns_of}
use Rattle.message_sim.specs.declared.steps.Deliveries.{Deliveries}
use Rattle.stability_laws.specs.Laws.{IsHeight}
use Rattle.net_names.specs.Lines.{kept_from}
use Rattle.net_names.specs.Prefixes.{PrefixValue, IsPrefix}
use Rattle.stability_laws.specs.Plans.{has_prefix}
use Rattle.stability_laws.specs.declared.entry.Entry.{Entry}
use Rattle.table_check.specs.Laws.{IsTableOf}
use Rattle.table_check.specs.Printed.{IsAsn, IsPrintable, for_text}
use Rattle.table_check.specs.Reading.{tables_by}
use Rattle.table_check.specs.declared.tables.Tables.{Tables}
use Rattle.sim_core.specs.Kept.{Kept, IsKept}
use Rattle.sim_core.specs.World.{HasCycle, World, topology}
use Rattle.sim_core.specs.Edits.{IsReason}
use Rattle.sim_core.specs.declared.errors.EditError.TheVariants as edit
use Rattle.asprop_run.specs.Delivering.{message_rows}
use Rattle.asprop_run.specs.Inside.{AreInside, IsInside}
use Rattle.asprop_run.specs.Settling.{acts_rows}
use Rattle.task_reading.specs.Jobs.{Job, acts_job, line_job, messages_job, sweep_job, tables_job}
use Rattle.sweep.specs.declared.sweeps.Sweep.{Sweep}
use Rattle.asprop_run.specs.Refusals.{edit_refusal}
use Rattle.asprop_run.specs.Replies.{AnswersJob, AnswersJobs, head}
use Rattle.asprop_run.specs.Runs.{IsRun}
use Rattle.asprop_run.specs.Streams.{Stream, stream_of}
use Rattle.task_reading.specs.Sources.{Source, source_of}
use Rattle.task_reading.specs.declared.types.Status.{Status}

-- this holds of each run, from whatever inputs and to whatever sinks, from one time to another
abbrev pub EachRun : {I O E : Type 0} → (I → Text → Option Text) → (I → Text → Type 0) → (I → ℕ) → (O → Option Text) → (O → ℕ) → (E → Option Text) → (E → ℕ)
    → (Source → List Text → Status → Stream → Stream → Type 0) → Type 0
EachRun {I} {O} {E} holds sound faults written out_faults said err_faults Holds = (old new : I) (out after : O) (err told : E) (words : List Text) (s : Status)
    → IsRun (source_of holds sound faults old new) words s (stream_of written out_faults out after) (stream_of said err_faults err told)
    → Holds (source_of holds sound faults old new) words s (stream_of written out_faults out after) (stream_of said err_faults err told)

-- behind these bytes the text refuses the edit for a provider cycle that its link closes (own format)
abbrev pub TellsCycle : World → Edit → Text → Text → Type 0
TellsCycle w e front s = (cycle : List ℕ) × IsReason w e (edit.ProviderCycle cycle) × (s ≡ front ++ edit_refusal (edit.ProviderCycle cycle))

-- two texts of one job are the same; or the job is a line whose edit both refuse, each for a provider cycle that its link closes, of which there may be several
abbrev pub IsOneButForCycle : World → Job → Text → Text → Type 0
IsOneButForCycle w (line_job heads line) s t = (s ≡ t)
    ⊎ ((e : Edit) × (line.act ≡ act.Edit e) × TellsCycle w e (head heads line.number) s × TellsCycle w e (head heads line.number) t)
IsOneButForCycle w job s t = s ≡ t

-- two texts that answer jobs are so job by job, each in the world that the jobs before it leave
abbrev pub AreOneByJob : World → List Job → Text → Text → Type 0
AreOneByJob w [] s t = (s ≡ []) × (t ≡ [])
AreOneByJob w (job ∷ jobs) s t = (a b c d : Text) × (refused : Bool) × (after : World) × AnswersJob w job a refused after
    × IsOneButForCycle w job a b × AreOneByJob after jobs c d × (s ≡ a ++ c) × (t ≡ b ++ d)

-- all texts that answer jobs, of a world that has all that they name, agree on whether an answer is a refusal, and job by job they are one text, but where both refuse the same link for a provider cycle
abbrev pub OneText : Type 0
OneText = (w : World) (jobs : List Job) (s t : Text) (r q : Bool) → AreInside w jobs → AnswersJobs w jobs s r → AnswersJobs w jobs t q → (r ≡ q) × AreOneByJob w jobs s t

-- activations with twice as many full pieces as the longest chain has ASes end in the routing that is kept: their text is the rows of the query for the routes of the round and the prefix, and then says that the routing is stable (Gao and Rexford 2001)
abbrev pub OrdersSettle : Type 0
OrdersSettle = (w after later : World) (acts : Acts) (pieces height number : ℕ) (text routes : Text) (refused other : Bool) →
    (HasCycle w → ⊥) → IsInside w (acts_job acts) → AreSound acts → IsMostPieces (has (topology w)) acts.list pieces → IsHeight (topology w) height → height + height ≤ pieces →
    AnswersJob w (acts_job acts) text refused after → AnswersJob w (line_job false (record { number = number; act = act.Query (Routes acts.round acts.prefix) })) routes other later →
    text ≡ routes ++ acts_rows pieces height true

-- deliveries are answered by rows, and then by what is said of the messages. Where none is under way in the end, or where as many turns as n ^ (2 * h) name no link, none is under way, and the rows are those of the query for the routes of the round and the prefix; the world has n ASes, and its longest chain has h (Gao and Rexford 2001, safety)
abbrev pub DeliveriesSettle : Type 0
DeliveriesSettle = (w after later : World) (d : Deliveries) (height number : ℕ) (text routes : Text) (refused other : Bool) →
    (HasCycle w → ⊥) → IsInside w (messages_job d) → IsHeight (topology w) height →
    AnswersJob w (messages_job d) text refused after → AnswersJob w (line_job false (record { number = number; act = act.Query (Routes d.round d.prefix) })) routes other later →
    (rows : Text) × (made queued : ℕ) × (text ≡ rows ++ message_rows made queued)
    × ((queued ≡ 0) ⊎ (as_count (topology w) ^ (2 * height) ≤ length (filter (λ t. not (is_some t)) (turns_of d.steps))) → (rows ≡ routes) × (queued ≡ 0))

-- a printed table is not refused exactly where each section is the one stable routing of its round, in a world without a provider cycle that has what is named (Gao and Rexford 2001)
abbrev pub StableTablesAreKept : Type 0
StableTablesAreKept = (w after : World) (k : Kept) (t : Tables) (text : Text) (refused : Bool) →
    (HasCycle w → ⊥) → IsKept w k → IsInside w (tables_job t) → AnswersJob w (tables_job t) text refused after →
    (refused ≡ false) ↔ IsTableOf k.routings t

-- the answers to queries for the routes of a prefix in so many rounds, from this one on, each behind its line `for R P` (own format)
abbrev pub sections : (ℕ → Text) → PrefixValue → ℕ → ℕ → Text
sections answers prefix round zero = []
sections answers prefix round (suc count) = for_text round prefix ++ (10 ∷ (answers round ++ sections answers prefix (suc round) count))

-- what is printed is right: the answers to queries for the routes of a prefix in the rounds from the first on, as the sections of a file, are read as a table that is inside the world and is not refused, in a world without a provider cycle of which all that is held in these rounds can be printed (Gao and Rexford 2001)
abbrev pub PrintedRoutesAreRight : Type 0
PrintedRoutesAreRight = (w : World) (k : Kept) (prefix : PrefixValue) (more number : ℕ) (answers : ℕ → Text) →
    (HasCycle w → ⊥) → IsKept w k → has_prefix w.plan prefix ≡ true → more < w.rounds → w.rounds < 10 ^ 9 → IsPrefix prefix.family prefix.addr prefix.len →
    ((a : ℕ) → has (topology w) a ≡ true → IsAsn a) → ((round a : ℕ) (e : Entry) → 1 ≤ round → round ≤ suc more → k.routings round prefix a ≡ Some e → IsPrintable e) →
    ((round : ℕ) → 1 ≤ round → round ≤ suc more → AnswersJob w (line_job false (record { number = number; act = act.Query (Routes round prefix) })) (answers round) false w) →
    (t : Tables) × (tables_by (kept_from 1 (sections answers prefix 1 (suc more))) ≡ Ok t) × IsInside w (tables_job t)
    × ((text : Text) (refused : Bool) (after : World) → AnswersJob w (tables_job t) text refused after → refused ≡ false)

-- sweeps are independent: a text that answers a list of them, put together from two, is one that answers the first and then one that answers the second, and none is refused
abbrev pub SweepsAreIndependent : Type 0
SweepsAreIndependent = (w : World) (first second : List Sweep) (text : Text) (refused : Bool) →
    AnswersJobs w (map sweep_job (first ++ second)) text refused
    ↔ ((s t : Text) × AnswersJobs w (map sweep_job first) s false × AnswersJobs w (map sweep_job second) t false × (text ≡ s ++ t) × (refused ≡ false))
