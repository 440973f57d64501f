-- Entries by place.
use Rattle.std.specs.Prelude.{◌≡◌, ℕ, ◌==◌, [], ◌++◌, if◌then◌else◌, List, Option, None, Some, map, nat_eq}
use Rattle.std.specs.List.{IsDistinct}
use Rattle.std.specs.Map.{keys_of}
use Rattle.as_places.specs.Places.{PlacedAses}
use Rattle.route_choice.specs.declared.held.Held.{Held}
use Rattle.route_choice.specs.declared.slot.Slot.{Slot}
use Rattle.route_choice.specs.declared.slot.Slot.TheVariants.{Empty, Full}
use Rattle.route_choice.specs.declared.row.Row.{Row}

-- The number, or none for 0.
abbrev pub number_in : ℕ → Option ℕ
number_in n = if n == 0 then None else Some n

-- The entry in a slot, if there is one.
abbrev pub entry_in : Slot → Option Held
entry_in Empty = None
entry_in (Full class path otc) = Some (record { class = class; path = path; otc = number_in otc })

-- The ASes of the rows, in their order.
abbrev pub asns_of : List Row → List ℕ
asns_of rows = map (λ (r : Row). r.asn) rows

-- The ASes of the rows with their entries, in their order.
abbrev pub entries_of : List Row → List (ℕ × Option Held)
entries_of rows = map (λ (r : Row). (r.asn, entry_in r.slot)) rows

-- A row without an entry for each of these ASes, in their order.
abbrev pub empty_rows : List ℕ → List Row
empty_rows ases = map (λ (a : ℕ). record { asn = a; slot = Empty }) ases

-- The ASes that have places, in their order: those of a list that is shared, or none without one.
abbrev pub placed_in : {R : Type 0} → (R → PlacedAses) → Option R → List ℕ
placed_in value None = []
placed_in value (Some shared) = (value shared).ases

-- The rows have the ASes that have places, in their order, and no AS stands twice, at a place or beside.
pub record AreByPlace (ases : List ℕ) (rows : List Row) (beside : List (ℕ × Option Held)) : Type 0 where
  pub places : asns_of rows ≡ ases
  pub apart : IsDistinct nat_eq (asns_of rows ++ keys_of beside)
