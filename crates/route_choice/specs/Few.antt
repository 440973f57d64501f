-- Entries of a few ASes.
use Rattle.std.specs.Prelude.{ℕ, ◌+◌, List, [], ◌∷◌, ◌++◌, Option, None, Some}
use Rattle.indexmap.specs.IndexMap.{spare}
use Rattle.route_choice.specs.declared.held.Held.{Held}
use Rattle.route_choice.specs.declared.first.First.{First}
use Rattle.route_choice.specs.declared.first.Few.{Few}

-- The AS that came first with its entry, if there is one.
abbrev pub first_in : Option First → List (ℕ × Option Held)
first_in None = []
first_in (Some f) = (f.asn, f.entry) ∷ []

-- 1 where no AS has come yet, else 0.
abbrev pub room_for : Option First → ℕ
room_for None = 1
room_for (Some f) = 0

-- The ASes with their entries, in the order in which they came.
abbrev pub few_entries : Few → List (ℕ × Option Held)
few_entries b = first_in b.first ++ b.others.entries

-- For how many more ASes there is room.
abbrev pub few_spare : Few → ℕ
few_spare b = room_for b.first + spare b.others
