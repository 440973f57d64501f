-- The tables of a net at its start.
use Rattle.std.specs.Prelude.{◌≡◌, ◌≤◌, ℕ, nat_eq, length, if◌then◌else◌, Option, None, Some, option_map, List, [], ◌∷◌}
use Rattle.std.specs.Map.{lookup}
use Rattle.net_names.specs.declared.routes.Rel.{Rel}
use Rattle.net_names.specs.Numbers.{occurs}
use Rattle.net_names.specs.Links.{converse}
use Rattle.policy_laws.specs.Policy.{Policy}
use Rattle.stability_laws.specs.declared.entry.Entry.{Entry}
use Rattle.stability_laws.specs.declared.entry.Seed.{Seed}
use Rattle.stability_laws.specs.Entries.{seed_entry}
use Rattle.message_sim.specs.declared.line.Line.{Line}
use Rattle.message_sim.specs.Messages.{Message, sent_given}
use Rattle.message_sim.specs.Rows.{ChoiceRows, BestRows}

-- each seed's path has at most 4000000000 numbers
abbrev pub HasShortSeeds : (ℕ → Option Seed) → Type 0
HasShortSeeds seeds = (a : ℕ) (s : Seed) → seeds a ≡ Some s → length s.path ≤ 4000000000

-- each AS of the list has a row with its seed's entry or nothing, and no other number has a row
abbrev pub AreFirstChoices : List ℕ → (ℕ → Option Seed) → ChoiceRows → Type 0
AreFirstChoices ases seeds es = (a : ℕ) → lookup (nat_eq a) es ≡ (if occurs a ases then Some (option_map seed_entry (seeds a)) else None)

-- each AS of the list has a row without a view
abbrev pub AreNoBests : List ℕ → BestRows → Type 0
AreNoBests ases es = (a : ℕ) → lookup (nat_eq a) es ≡ (if occurs a ases then Some None else None)

-- the first message on a link: an entry is under way, and a withdrawal is what was received already
abbrev pub first_queue : Message → List Message
first_queue None = []
first_queue (Some e) = Some e ∷ []

-- the line on which the message is the first one
abbrev pub first_line : Message → Line
first_line message = record { received = None; queue = first_queue message }

-- the line from a neighbour that is `rel` to the AS and holds this
abbrev pub HasFirstLine : Policy → Rel → Option Entry → Line → Type 0
HasFirstLine p rel held l = l ≡ first_line (sent_given p (Some (converse rel)) held)

-- the line at the start over a link, by what the receiver is to the sender; none where they have no link
abbrev pub line_at_start : Policy → Option Rel → Option Entry → Option Line
line_at_start p None held = None
line_at_start p (Some rel) held = Some (first_line (sent_given p (Some (converse rel)) held))
