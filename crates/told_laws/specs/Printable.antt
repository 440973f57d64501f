-- Worlds of which all that is held can be printed, and read again.
use Rattle.std.specs.Prelude.{◌≡◌, ℕ, suc, ◌^◌, ◌<◌, ◌≤◌, Bool, true, false, IsTrue, Option, Some, Ok, List, length}
use Rattle.std.specs.List.{AllByRecursion}
use Rattle.clap.specs.Walk.{Text}
use Rattle.as_graph.specs.Topology.{has}
use Rattle.net_names.specs.Lines.{kept_from}
use Rattle.net_names.specs.Prefixes.{PrefixValue, IsPrefix}
use Rattle.scenario_text.specs.declared.acts.Act.TheVariants as act
use Rattle.scenario_text.specs.declared.acts.Query.TheVariants.{Routes}
use Rattle.stability_laws.specs.Plans.{announced_path, has_prefix}
use Rattle.stability_laws.specs.declared.entry.Entry.{Entry}
use Rattle.sim_core.specs.Kept.{Kept, IsKept}
use Rattle.sim_core.specs.World.{HasCycle, World, has_round, topology}
use Rattle.table_check.specs.Printed.{IsAsn, IsPrintable}
use Rattle.table_check.specs.Reading.{tables_by}
use Rattle.table_check.specs.declared.tables.Tables.{Tables}
use Rattle.task_reading.specs.Jobs.{line_job, tables_job}
use Rattle.asprop_run.specs.Inside.{IsInside}
use Rattle.asprop_run.specs.Laws.{sections}
use Rattle.asprop_run.specs.Replies.{AnswersJob}
use Rattle.asprop_run.specs.Task.{HasAnswers, Task, task_of}
use Rattle.task_reading.specs.Words.{Form, file_form, form_of, origin_form}
use Rattle.task_reading.specs.declared.types.File.{File}

-- a path that can be printed has a number, and all its numbers are those of ASes (RFC 6793; RFC 7607 rules out 0)
abbrev pub IsPath : List ℕ → Type 0
IsPath path = (1 ≤ length path) × AllByRecursion IsAsn path

-- a world can be printed: its rounds have at most 9 digits, its prefixes are some, its ASes have numbers of ASes, and
-- so have the paths that are announced (RFC 6793; RFC 4632, section 3.1; RFC 4291, section 2.3)
pub record IsPrintableWorld (w : World) : Type 0 where
  pub rounds : w.rounds < 10 ^ 9
  pub prefixes : (p : PrefixValue) → has_prefix w.plan p ≡ true → IsPrefix p.family p.addr p.len
  pub ases : (a : ℕ) → has (topology w) a ≡ true → IsAsn a
  pub paths : (p : PrefixValue) (a : ℕ) (path : List ℕ) → announced_path w.plan p a ≡ Some path → IsPath path

-- what is kept of a world that can be printed can be printed: each entry of each round (own format)
abbrev pub HeldEntriesArePrintable : Type 0
HeldEntriesArePrintable = (w : World) (k : Kept) (round : ℕ) (p : PrefixValue) (a : ℕ) (e : Entry) → IsPrintableWorld w → IsKept w k →
    IsTrue (has_round w round) → IsTrue (has_prefix w.plan p) → k.routings round p a ≡ Some e → IsPrintable e

-- in a world that can be printed and has no provider cycle the answers to queries for the routes of a prefix in the
-- rounds from the first on, as the sections of a file, are read as a table that is inside the world and is not refused
-- (Gao and Rexford 2001)
abbrev pub PrintedRoutesAreAccepted : Type 0
PrintedRoutesAreAccepted = (w : World) (k : Kept) (prefix : PrefixValue) (more number : ℕ) (answers : ℕ → Text) →
    IsPrintableWorld w → (HasCycle w → ⊥) → IsKept w k → has_prefix w.plan prefix ≡ true → more < w.rounds →
    ((round : ℕ) → 1 ≤ round → round ≤ suc more → AnswersJob w (line_job false (record { number = number; act = act.Query (Routes round prefix) })) (answers round) false w) →
    (t : Tables) × (tables_by (kept_from 1 (sections answers prefix 1 (suc more))) ≡ Ok t) × IsInside w (tables_job t)
    × ((text : Text) (refused : Bool) (after : World) → AnswersJob w (tables_job t) text refused after → refused ≡ false)

-- the world is made from files: by a form that names them, where the one origin, if that is asked for, has the number
-- of an AS; not by the generated input
abbrev pub IsOfFiles : Option Form → Type 0
IsOfFiles (Some (file_form rel vrps scenario file option)) = Unit {0}
IsOfFiles (Some (origin_form rel origin)) = IsAsn origin
IsOfFiles _ = ⊥

-- the one origin that words ask for has the number of an AS (RFC 6793; RFC 7607 rules out 0)
abbrev pub OriginsAreAses : Type 0
OriginsAreAses = (words : List Text) (rel : Text) (origin : ℕ) → form_of words ≡ Some (origin_form rel origin) → IsAsn origin

-- the world of each task that files give can be printed (own format)
abbrev pub LoadedWorldsArePrintable : Type 0
LoadedWorldsArePrintable = (form : Option Form) (reads : File → Option Text) (t : Task) → IsOfFiles form → task_of form reads ≡ Ok t → IsPrintableWorld t.world

-- what is printed for a task that files give is right: the answers to queries for the routes of a prefix in the rounds
-- from the first on, as the sections of a file, are read as a table that is inside its world and is not refused (Gao
-- and Rexford 2001)
abbrev pub ToldRoutesAreAccepted : Type 0
ToldRoutesAreAccepted = (form : Option Form) (reads : File → Option Text) (t : Task) (k : Kept) (prefix : PrefixValue) (more number : ℕ) (answers : ℕ → Text) →
    IsOfFiles form → task_of form reads ≡ Ok t → HasAnswers t → IsKept t.world k → has_prefix t.world.plan prefix ≡ true → more < t.world.rounds →
    ((round : ℕ) → 1 ≤ round → round ≤ suc more → AnswersJob t.world (line_job false (record { number = number; act = act.Query (Routes round prefix) })) (answers round) false t.world) →
    (tables : Tables) × (tables_by (kept_from 1 (sections answers prefix 1 (suc more))) ≡ Ok tables) × IsInside t.world (tables_job tables)
    × ((text : Text) (refused : Bool) (after : World) → AnswersJob t.world (tables_job tables) text refused after → refused ≡ false)
