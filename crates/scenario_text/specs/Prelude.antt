-- The words of this crate that the clauses of crates above use, to import from one place.
pub use Rattle.scenario_text.specs.LineValues.{AreSoundLines, IsSoundAct, IsWellFormed, LineValue}
pub use Rattle.scenario_text.specs.Forms.{few_numbers, form, pair}
pub use Rattle.scenario_text.specs.LineFaults.{Gives}
pub use Rattle.scenario_text.specs.Scenarios.{ScenarioValue, nothing}
pub use Rattle.scenario_text.specs.Readings.{scenario_of_bytes}
