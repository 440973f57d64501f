-- Entries by AS, and how often each path is used by them.
use Rattle.std.specs.Prelude.{◌≡◌, ℕ, ◌≤◌, List, Option, None, Some, ◌==◌, if◌then◌else◌, map, nat_eq, unwrap_or}
use Rattle.std.specs.List.{count_by, sum_by}
use Rattle.std.specs.Map.{keys_of, values_of, lookup}
use Rattle.std.specs.Option.{is_none}
use Rattle.net_names.specs.Numbers.{occurs}
use Rattle.route_choice.specs.declared.held.Held.{Held}

-- At some ASes an entry, or none, in an order, and for how many more ASes there is room.
pub record Slots : Type 0 where
  pub entries : List (ℕ × Option Held)
  pub spare : ℕ

-- The ASes, in their order.
abbrev pub keys : Slots → List ℕ
keys m = keys_of m.entries

-- What stands at an AS, if it is among them: an entry, or none.
abbrev pub slot_at : Slots → ℕ → Option (Option Held)
slot_at m a = lookup (nat_eq a) m.entries

-- The entry at an AS, if there is one.
abbrev pub entry_at : Slots → ℕ → Option Held
entry_at m a = unwrap_or (slot_at m a) None

-- How many of these ASes are not among them.
abbrev pub missing_count : Slots → List ℕ → ℕ
missing_count m ases = count_by (λ (a : ℕ). is_none (slot_at m a)) ases

-- These ASes, in their order, each with the entry at it, if there is one.
abbrev pub entries_at : Slots → List ℕ → List (ℕ × Option Held)
entries_at m ases = map (λ (a : ℕ). (a, entry_at m a)) ases

-- A change where there is one, else what stands below it.
abbrev pub over : Option (Option Held) → Option Held → Option Held
over None below = below
over (Some change) below = change

-- 1 where the entry has the path, else 0.
abbrev pub use_of : ℕ → Option Held → ℕ
use_of k None = 0
use_of k (Some h) = if h.path.0 == k then 1 else 0

-- How many of the entries have the path.
abbrev pub uses_in : List (ℕ × Option Held) → ℕ → ℕ
uses_in entries k = sum_by (use_of k) (values_of entries)

-- How many entries have the path.
abbrev pub uses_of : Slots → ℕ → ℕ
uses_of m k = uses_in m.entries k

-- No entry stands at each of these ASes, in this order, and there is room for so many more.
pub record IsBlank (ases : List ℕ) (more : ℕ) (m : Slots) : Type 0 where
  pub entries : (a : ℕ) → slot_at m a ≡ (if occurs a ases then Some None else None)
  pub places : keys m ≡ ases
  pub uses : (k : ℕ) → uses_of m k ≡ 0
  pub room : more ≤ m.spare
