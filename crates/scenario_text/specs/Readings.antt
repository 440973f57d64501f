-- The scenario of a text (own format, over RFC 8259).
use Rattle.std.specs.Prelude.{ℕ, List, Option, None, ok_or, Result, if◌then◌else◌}
use Rattle.std.specs.Str.{is_utf8}
use Rattle.serde_json.specs.Data.{Data}
use Rattle.serde_json.specs.Read.{read}
use Rattle.scenario_text.specs.declared.faults.ScenarioError.{ScenarioError}
use Rattle.scenario_text.specs.declared.faults.ScenarioError.TheVariants.{NotJson}
use Rattle.scenario_text.specs.Documents.{DocumentValue}
use Rattle.scenario_text.specs.Limits.{within}
use Rattle.scenario_text.specs.Members.{lists_in}
use Rattle.scenario_text.specs.Scenarios.{ScenarioValue}
use Rattle.scenario_text.specs.Shapes.{document_of}
use Rattle.scenario_text.specs.Twice.{once}
use Rattle.scenario_text.specs.Walks.{◌>>=◌}

-- the JSON value that the bytes are the text of, where they are UTF-8 and a JSON text as serde_json reads it: numbers that no float holds, and more than 127 levels, are refused (RFC 8259, sections 2, 8.1 and 9)
unfoldable pub json_of : List ℕ → Option Data
json_of bytes = if is_utf8 bytes then read bytes else None

-- the document of a text, where it is JSON and each value of its type, as the code reads it
abbrev pub document_in : List ℕ → Result DocumentValue ScenarioError
document_in text = ok_or (read text) NotJson >>= document_of

-- the four lists of a text, where it is JSON and each value of its type and in its grammar (own format)
abbrev pub lists_of_bytes : List ℕ → Result ScenarioValue ScenarioError
lists_of_bytes bytes = ok_or (json_of bytes) NotJson >>= lists_in

-- the scenario of a text: the text has to be JSON, and then the first fault of the first pass that finds one, or the four lists (own format)
unfoldable pub scenario_of_bytes : List ℕ → Result ScenarioValue ScenarioError
scenario_of_bytes bytes = ok_or (json_of bytes) NotJson >>= lists_in >>= once >>= within
