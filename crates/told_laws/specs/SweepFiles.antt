-- What a file of sweeps says, said of all its lines at once, and of its parts.
use Rattle.std.specs.Prelude.{◌≡◌, ◌⊎◌, ◌↔◌, ℕ, ◌+◌, ◌≤◌, Bool, false, List, [], ◌∷◌, ◌++◌, map, length, Option, None, Some, IsSome, Ok, Err}
use Rattle.clap.specs.Walk.{Text}
use Rattle.net_names.specs.Lines.{kept_from}
use Rattle.scenario_text.specs.declared.line_faults.LinesError.{LinesError}
use Rattle.scenario_text.specs.declared.line_faults.LinesError.TheVariants.{Unreadable, TooMany}
use Rattle.sweep.specs.Reading.{sweep_of, sweeps_by}
use Rattle.sweep.specs.declared.sweeps.Sweep.{Sweep}
use Rattle.sweep.specs.declared.sweeps.TheConstants.{MOST_SWEEPS}
use Rattle.sim_core.specs.World.{World}
use Rattle.task_reading.specs.Asking.{jobs_in}
use Rattle.task_reading.specs.Jobs.{sweep_job}
use Rattle.task_reading.specs.declared.words.FileOption.TheVariants as option
use Rattle.asprop_run.specs.Replies.{AnswersJobs}
use Rattle.asprop_run.specs.Task.{outside}

-- what the line of a number asks for
abbrev pub asked_by : ℕ × List ℕ → Option Sweep
asked_by line = sweep_of line.0 line.1

-- the lines ask for these sweeps, one each, and there are at most 1,000 (own format)
pub record AreSweeps (lines : List (ℕ × List ℕ)) (sweeps : List Sweep) : Type 0 where
  pub say : map asked_by lines ≡ map Some sweeps
  pub few : length sweeps ≤ MOST_SWEEPS

-- a file is accepted, and asks for this, exactly where its lines that aren't skipped do (own format)
abbrev pub SweepsAreThoseSaid : Type 0
SweepsAreThoseSaid = (bytes : List ℕ) (sweeps : List Sweep) → (sweeps_by (kept_from 1 bytes) ≡ Ok sweeps) ↔ AreSweeps (kept_from 1 bytes) sweeps

-- the fault of a line behind lines that ask for so many sweeps: it hasn't the form, or it has and 1,000 stand before it
-- (own format)
abbrev pub IsSweepFault : ℕ → ℕ × List ℕ → LinesError → Type 0
IsSweepFault before line e = ((asked_by line ≡ None) × (e ≡ Unreadable line.0)) ⊎ (IsSome (asked_by line) × (before ≡ MOST_SWEEPS) × (e ≡ TooMany line.0))

-- the first line with a fault has this one: the lines before it ask for sweeps, at most 1,000
pub record IsFirstSweepFault (lines : List (ℕ × List ℕ)) (e : LinesError) : Type 0 where
  pub front : List (ℕ × List ℕ)
  pub line : ℕ × List ℕ
  pub back : List (ℕ × List ℕ)
  pub cut : lines ≡ front ++ line ∷ back
  pub sweeps : List Sweep
  pub good : AreSweeps front sweeps
  pub fault : IsSweepFault (length sweeps) line e

-- a file is refused with a fault exactly where its first faulty line has it (own format)
abbrev pub SweepFaultsAreFirst : Type 0
SweepFaultsAreFirst = (bytes : List ℕ) (e : LinesError) → (sweeps_by (kept_from 1 bytes) ≡ Err e) ↔ IsFirstSweepFault (kept_from 1 bytes) e

-- the sweep without the number of its line
abbrev pub unnumbered : Sweep → Sweep
unnumbered s = record s { line = 0 }

-- what a whole file of two parts asks for: the sweeps of the first, and behind them those of the second, but for the
-- numbers of their lines
pub record AreJoined (front back : Text) (first second : List Sweep) : Type 0 where
  pub later : List Sweep
  pub read : jobs_in option.Sweep (front ++ 10 ∷ back) ≡ Ok (map sweep_job (first ++ later))
  pub same : map unnumbered later ≡ map unnumbered second
  pub inside : (w : World) → (outside w (map sweep_job (first ++ later)) ≡ None) ↔ ((outside w (map sweep_job first) ≡ None) × (outside w (map sweep_job second) ≡ None))
  pub answered : (w : World) (text : Text) (refused : Bool) → AnswersJobs w (map sweep_job (first ++ later)) text refused
      ↔ ((s t : Text) × AnswersJobs w (map sweep_job first) s false × AnswersJobs w (map sweep_job second) t false × (text ≡ s ++ t) × (refused ≡ false))

-- a file of sweeps that is cut behind a line feed: where both parts are accepted and ask for at most 1,000 sweeps
-- together, the whole is accepted, it is inside a world exactly where both parts are, and a text answers it exactly
-- where it is one that answers the first part and then one that answers the second (own format)
abbrev pub SweepFilesAreIndependent : Type 0
SweepFilesAreIndependent = (front back : Text) (first second : List Sweep) →
    jobs_in option.Sweep (front ++ 10 ∷ []) ≡ Ok (map sweep_job first) → jobs_in option.Sweep back ≡ Ok (map sweep_job second) → length first + length second ≤ MOST_SWEEPS →
    AreJoined front back first second
