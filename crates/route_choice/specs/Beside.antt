-- Entries of ASes that have no place.
use Rattle.std.specs.Prelude.{ℕ, List, Option, None, Some, Box}
use Rattle.std.specs.Global.{Global}
use Rattle.route_choice.specs.declared.held.Held.{Held}
use Rattle.route_choice.specs.declared.beside.Beside.{Beside}
use Rattle.route_choice.specs.Few.{few_entries, few_spare}
use Rattle.route_choice.specs.Slots.{Slots}

-- The entries of many, or without those the entries of a few.
abbrev pub entries_or : List (ℕ × Option Held) → Option (Box Slots Global) → List (ℕ × Option Held)
entries_or few None = few
entries_or few (Some many) = many.value.entries

-- The room of many, or without those the room of a few.
abbrev pub spare_or : ℕ → Option (Box Slots Global) → ℕ
spare_or few None = few
spare_or few (Some many) = many.value.spare

-- The ASes with their entries, in the order in which they came.
abbrev pub beside_entries : Beside → List (ℕ × Option Held)
beside_entries b = entries_or (few_entries b.few) b.many

-- For how many more ASes there is room.
abbrev pub beside_spare : Beside → ℕ
beside_spare b = spare_or (few_spare b.few) b.many
