-- Faults of a scenario, and what a call answers of a reading.
use Rattle.std.specs.Prelude.{◌≡◌, Result, Ok, Err}
use Rattle.scenario_text.specs.declared.faults.ScenarioError.{ScenarioError}
use Rattle.scenario_text.specs.declared.faults.ScenarioError.TheVariants as fault

-- a reading fails in this way; want of memory says nothing of it
abbrev pub Fails : {X : Type 0} → ScenarioError → Result X ScenarioError → Type 0
Fails fault.Memory reading = Unit {0}
Fails fault.NotJson reading = reading ≡ Err fault.NotJson
Fails (fault.Shape place) reading = reading ≡ Err (fault.Shape place)
Fails (fault.Value place) reading = reading ≡ Err (fault.Value place)
Fails (fault.Twice place) reading = reading ≡ Err (fault.Twice place)
Fails (fault.Limit which) reading = reading ≡ Err (fault.Limit which)

-- what was returned, seen so, is what the reading gives, unless memory ran out
abbrev pub GivesBy : {X Y : Type 0} → (X → Y) → Result X ScenarioError → Result Y ScenarioError → Type 0
GivesBy view (Ok x) reading = reading ≡ Ok (view x)
GivesBy view (Err e) reading = Fails e reading

-- what was returned is what the reading gives, unless memory ran out
abbrev pub Gives : {X : Type 0} → Result X ScenarioError → Result X ScenarioError → Type 0
Gives result reading = GivesBy (λ x. x) result reading
