-- The lines of a file of deliveries.
use Rattle.std.proofs.Common.{◌≡◌, ℕ, ◌+◌, List, [], ◌∷◌, ◌++◌, length, length-append, append-nil, Result, ap, ◌∙◌}
use Rattle.std.proofs.lemmas.Grind.{flat_map-append}
use Rattle.std.proofs.lemmas.List.{length-replicate}
use Rattle.net_names.specs.Lines.{said_on}
use Rattle.net_names.specs.Prefixes.{PrefixValue}
use Rattle.message_sim.specs.Turns.{turns_of}
use Rattle.message_sim.specs.declared.steps.Deliveries.{Deliveries}
use Rattle.message_sim.specs.StepValues.{StepValue}
use Rattle.message_sim.specs.declared.reading.DeliveriesError.{DeliveriesError}
use Rattle.message_sim.specs.Files.{with_line}

-- how many turns steps with one more ask for
pub one_step : (s : StepValue) → length (turns_of (s ∷ [])) ≡ s.most
one_step s = ap length (append-nil _) ∙ length-replicate s.most s.link

pub step_more : (steps : List StepValue) (s : StepValue) → length (turns_of (steps ++ s ∷ [])) ≡ length (turns_of steps) + s.most
step_more steps s = ap length (flat_map-append _ steps (s ∷ [])) ∙ length-append (turns_of steps) (turns_of (s ∷ [])) ∙ ap (λ n. length (turns_of steps) + n) (one_step s)

-- what lines say behind one of this number that names these
abbrev pub begins : ℕ → ℕ × PrefixValue → List (ℕ × List ℕ) → Result Deliveries DeliveriesError
begins number names = said_on with_line (record { for_line = number; round = names.0; prefix = names.1; steps = [] })
