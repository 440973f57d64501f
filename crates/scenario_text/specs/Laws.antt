-- When a scenario and a script are accepted, said of all their parts at once.
use Rattle.std.specs.Prelude.{◌≡◌, ℕ, ◌≤◌, ◌↔◌, List, length, map, All, Option, Some, Ok, IsOk, IsSome}
use Rattle.serde_json.specs.Data.{Data}
use Rattle.net_names.specs.Lines.{kept_from}
use Rattle.scenario_text.specs.declared.acts.Act.{Act}
use Rattle.scenario_text.specs.Forms.{act_of}
use Rattle.scenario_text.specs.LineValues.{LineValue}
use Rattle.scenario_text.specs.Members.{lists_in}
use Rattle.scenario_text.specs.Readings.{json_of, scenario_of_bytes}
use Rattle.scenario_text.specs.Scenarios.{ScenarioValue, IsScenario}
use Rattle.scenario_text.specs.Script.{script_of}
use Rattle.scenario_text.specs.declared.script.TheConstants.{MOST_COMMANDS}

-- the text says these four lists, before it is asked what stands twice and what is too much: it is JSON, and each value is of its type and in its grammar (own format)
pub record ReadsAs (bytes : List ℕ) (s : ScenarioValue) : Type 0 where
  pub value : Data
  pub is_json : json_of bytes ≡ Some value
  pub says : lists_in value ≡ Ok s

-- a scenario is accepted exactly where its text is JSON, each value is of its type and in its grammar, and the four lists name nothing twice and pass no limit (own format)
abbrev pub AcceptedExactly : Type 0
AcceptedExactly = (bytes : List ℕ) (s : ScenarioValue) → (scenario_of_bytes bytes ≡ Ok s) ↔ (ReadsAs bytes s × IsScenario s)

-- a script is accepted exactly where each line that isn't skipped has one of the forms and these are at most 100,000 (own format)
abbrev pub ScriptAcceptedExactly : Type 0
ScriptAcceptedExactly = (bytes : List ℕ) → IsOk (script_of bytes) ↔ (All (λ line. IsSome (act_of line.1)) (kept_from 1 bytes) × (length (kept_from 1 bytes) ≤ MOST_COMMANDS))

-- the lines of an accepted script are its lines that aren't skipped, in their order, each with its number and what its text asks for (own format)
abbrev pub LinesAreThose : Type 0
LinesAreThose = (bytes : List ℕ) (lines : List LineValue) → script_of bytes ≡ Ok lines → map {B = ℕ × Option Act} (λ l. (l.number, Some l.act)) lines ≡ map {B = ℕ × Option Act} (λ line. (line.0, act_of line.1)) (kept_from 1 bytes)
