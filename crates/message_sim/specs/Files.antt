-- A file of deliveries: its round and prefix, and the turns of links that it asks for, or the first fault (own format).
use Rattle.std.specs.Prelude.{ℕ, ◌==◌, ◌&&◌, not, List, [], ◌∷◌, ◌++◌, length, nat_le, nat_lt, Option, None, Some, ok_or, Result, Ok, Err, if◌then◌else◌, ◌≡◌}
use Rattle.std.specs.Option.{option_or}
use Rattle.net_names.specs.Lines.{said_on}
use Rattle.net_names.specs.Steps.{option_filter}
use Rattle.net_names.specs.Texts.{asn_of, numeral}
use Rattle.net_names.specs.Trials.{◌>>=◌}
use Rattle.scenario_text.specs.FileLines.{GivesOrFails}
use Rattle.scenario_text.specs.Forms.{for_of, form, pair}
use Rattle.message_sim.specs.declared.steps.Deliveries.{Deliveries}
use Rattle.message_sim.specs.StepValues.{StepValue}
use Rattle.message_sim.specs.declared.reading.DeliveriesError.{DeliveriesError}
use Rattle.message_sim.specs.declared.reading.DeliveriesError.TheVariants.{Memory, Unreadable, TooMany, NoFor}
use Rattle.message_sim.specs.declared.steps.TheConstants.{MOST_DELIVERIES}
use Rattle.message_sim.specs.Turns.{turns_of}

-- a reading fails in this way; want of memory says nothing of it
abbrev pub Fails : {X : Type 0} → DeliveriesError → Result X DeliveriesError → Type 0
Fails Memory reading = Unit {0}
Fails e reading = reading ≡ Err e

-- a reading that fails as another one does fails in the same way
pub fails_on : (e : DeliveriesError) (r s : Result Deliveries DeliveriesError) → ((f : DeliveriesError) → r ≡ Err f → s ≡ Err f) → Fails e r → Fails e s
fails_on Memory r s same fails = tt
fails_on e r s same fails = same e fails

-- `deliver N A` asks for one turn of the link from AS N to another AS A, and `rest K` for K turns, each of the lowest link with a message; K is 1 to 7 digits with a value from 1 to 1,000,000 (own format)
abbrev pub step_of : ℕ × List ℕ → Option StepValue
step_of l = option_or (form "deliver " (λ t. option_filter (λ x. not (x.0 == x.1))
    (pair 32 asn_of asn_of t)) (λ x. record { line = l.0; link = Some x; most = 1 }) l.1)
    (form "rest " (λ t. option_filter (λ k. nat_lt 0 k && nat_le k MOST_DELIVERIES)
    (numeral 10 7 t)) (λ k. record { line = l.0; link = None; most = k }) l.1)

-- with the step of a line, behind what was said before: at most 1,000,000 turns in all (own format)
abbrev pub with_line : Deliveries → ℕ × List ℕ → Result Deliveries DeliveriesError
with_line d l = ok_or (step_of l) (Unreadable l.0) >>= λ s.
    if nat_le (length (turns_of (d.steps ++ s ∷ []))) MOST_DELIVERIES
    then Ok (record d { steps = d.steps ++ s ∷ [] }) else Err (TooMany s.line)

-- what the lines say, of which the first is `for R P` (own format)
unfoldable pub deliveries_by : List (ℕ × List ℕ) → Result Deliveries DeliveriesError
deliveries_by [] = Err NoFor
deliveries_by (l ∷ ls) = ok_or (for_of l.1) (Unreadable l.0) >>= λ x. said_on with_line (record { for_line = l.0; round = x.0; prefix = x.1; steps = [] }) ls

-- what was returned is what the reading gives, unless memory ran out
abbrev pub Gives : {X : Type 0} → Result X DeliveriesError → Result X DeliveriesError → Type 0
Gives result reading = GivesOrFails Fails result reading
