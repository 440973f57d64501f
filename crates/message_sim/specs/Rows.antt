-- The rows that a net keeps, and what they say.
use Rattle.std.specs.Prelude.{◌≡◌, ◌≢◌, ◌&&◌, ℕ, Bool, true, false, Option, None, Some, List, [], ◌∷◌}
use Rattle.stability_laws.specs.declared.entry.Entry.{Entry}
use Rattle.policy_laws.specs.declared.policy.View.{View}
use Rattle.std.specs.Map.{lookup}
use Rattle.std.specs.Prelude.{nat_eq, drop, slice_get, is_some}
use Rattle.net_names.specs.Numbers.{occurs}
use Rattle.std.specs.BTreeSet.{BTreeSet, contains}
use Rattle.net_names.specs.Links.{pair_cmp}
use Rattle.message_sim.specs.declared.line.Line.{Line}
use Rattle.message_sim.specs.Messages.{Message}
use Rattle.message_sim.specs.Nets.{chosen, received_on, queue_on}

-- two links are one
abbrev pub link_eq : ℕ × ℕ → ℕ × ℕ → Bool
link_eq x y = nat_eq x.0 y.0 && nat_eq x.1 y.1

-- the rows of choices
abbrev pub ChoiceRows : Type 0
ChoiceRows = List (ℕ × Option Entry)

-- the rows of lines
abbrev pub LineRows : Type 0
LineRows = List ((ℕ × ℕ) × Line)

-- the rows of best views
abbrev pub BestRows : Type 0
BestRows = List (ℕ × Option View)

-- what an AS chose
abbrev pub choice_at : ChoiceRows → ℕ → Option Entry
choice_at es a = chosen (lookup (nat_eq a) es)

-- what was received last over a link
abbrev pub received_at : LineRows → ℕ → ℕ → Message
received_at es n a = received_on (lookup (link_eq (n, a)) es)

-- the messages that are under way on a link
abbrev pub queue_at : LineRows → ℕ → ℕ → List Message
queue_at es n a = queue_on (lookup (link_eq (n, a)) es)

-- the oldest message was taken out and received
pub record IsTaken (old new : Line) : Type 0 where
  pub queue : new.queue ≡ drop 1 old.queue
  pub received : Some new.received ≡ slice_get old.queue 0

-- the row of the AS has a new value, and the others stay
pub record IsPut {X : Type 0} (old new : List (ℕ × X)) (a : ℕ) (x : X) : Type 0 where
  pub this : lookup (nat_eq a) new ≡ Some x
  pub others : (b : ℕ) → b ≢ a → lookup (nat_eq b) new ≡ lookup (nat_eq b) old

-- each link of the one set is in the other
abbrev pub KeepsWaiting : BTreeSet (ℕ × ℕ) → BTreeSet (ℕ × ℕ) → Type 0
KeepsWaiting old new = (n a : ℕ) → contains pair_cmp old (n, a) ≡ true → contains pair_cmp new (n, a) ≡ true

-- the view that stands in a row; none where there is no row
abbrev pub best_on : Option (Option View) → Option View
best_on None = None
best_on (Some best) = best

-- the view of the best offer of an AS
abbrev pub best_at : BestRows → ℕ → Option View
best_at es a = best_on (lookup (nat_eq a) es)

-- a message is under way
abbrev pub is_some_message : List Message → Bool
is_some_message [] = false
is_some_message (m ∷ ms) = true

-- both ends of each line are numbers of the list
abbrev pub AreWithin : List ℕ → LineRows → Type 0
AreWithin ns es = (n a : ℕ) → is_some (lookup (link_eq (n, a)) es) ≡ true → (occurs n ns ≡ true) × (occurs a ns ≡ true)
