-- Faults of a file of lines, and what a call answers of a reading.
use Rattle.std.specs.Prelude.{◌≡◌, Result, Err}
use Rattle.scenario_text.specs.declared.line_faults.LinesError.{LinesError}
use Rattle.scenario_text.specs.declared.line_faults.LinesError.TheVariants.{Memory, Unreadable, TooMany}
use Rattle.scenario_text.specs.FileLines.{GivesOrFails}

-- a reading fails in this way; want of memory says nothing of it
abbrev pub Fails : {X : Type 0} → LinesError → Result X LinesError → Type 0
Fails Memory reading = Unit {0}
Fails (Unreadable line) reading = reading ≡ Err (Unreadable line)
Fails (TooMany line) reading = reading ≡ Err (TooMany line)

-- what was returned is what the reading gives, unless memory ran out
abbrev pub Gives : {X : Type 0} → Result X LinesError → Result X LinesError → Type 0
Gives result reading = GivesOrFails Fails result reading
