-- What a file of deliveries says, said of all its lines at once.
use Rattle.std.specs.Prelude.{◌≡◌, ◌↔◌, ℕ, ◌≤◌, List, ◌∷◌, map, length, Some, Ok}
use Rattle.net_names.specs.Lines.{kept_from}
use Rattle.scenario_text.specs.Forms.{for_of}
use Rattle.message_sim.specs.declared.steps.Deliveries.{Deliveries}
use Rattle.message_sim.specs.declared.steps.TheConstants.{MOST_DELIVERIES}
use Rattle.message_sim.specs.Files.{deliveries_by, step_of}
use Rattle.message_sim.specs.Turns.{turns_of}

-- the first line names the round and the prefix, and each other one is a step; the steps ask for at most 1,000,000 turns (own format)
pub record IsFile (lines : List (ℕ × List ℕ)) (d : Deliveries) : Type 0 where
  pub text : List ℕ
  pub rest : List (ℕ × List ℕ)
  pub lines_are : lines ≡ (d.for_line, text) ∷ rest
  pub names : for_of text ≡ Some (d.round, d.prefix)
  pub steps : map step_of rest ≡ map Some d.steps
  pub few : length (turns_of d.steps) ≤ MOST_DELIVERIES

-- a file is accepted, and says this, exactly where its lines that aren't skipped do (own format)
abbrev pub DeliveriesAreThoseSaid : Type 0
DeliveriesAreThoseSaid = (bytes : List ℕ) (d : Deliveries) → (deliveries_by (kept_from 1 bytes) ≡ Ok d) ↔ IsFile (kept_from 1 bytes) d
