-- Next hops and marks as numbers.
use Rattle.std.specs.Prelude.{◌≡◌, ℕ, zero, suc, refl}
use Rattle.data_trace.specs.declared.places.PlaceHop.{PlaceHop}
use Rattle.data_trace.specs.declared.places.PlaceHop.TheVariants as hop
use Rattle.data_trace.specs.declared.places.PlaceEnd.TheVariants as place_end
use Rattle.data_trace.specs.declared.places.Mark.{Mark}
use Rattle.data_trace.specs.declared.places.Mark.TheVariants as mark

-- the next hop of a number: 0 and 1 are those without a place, and the other numbers are the places from 0 on
abbrev pub hop_of_number : ℕ → PlaceHop
hop_of_number zero = hop.NoRoute
hop_of_number (suc zero) = hop.Here
hop_of_number (suc (suc y)) = hop.To y

-- the number of a next hop
abbrev pub number_of_hop : PlaceHop → ℕ
number_of_hop hop.NoRoute = 0
number_of_hop hop.Here = 1
number_of_hop (hop.To y) = suc (suc y)

-- a number comes back from its next hop
pub number_of_hop-hop_of_number : (n : ℕ) → number_of_hop (hop_of_number n) ≡ n
number_of_hop-hop_of_number zero = refl
number_of_hop-hop_of_number (suc zero) = refl
number_of_hop-hop_of_number (suc (suc y)) = refl

-- the mark of a number: 0 to 3 are those without a place, and the other numbers are the ends at the places from 0 on
abbrev pub mark_of_number : ℕ → Mark
mark_of_number zero = mark.Unknown
mark_of_number (suc zero) = mark.Walked
mark_of_number (suc (suc zero)) = mark.Known place_end.NoRoute
mark_of_number (suc (suc (suc zero))) = mark.Known place_end.Loop
mark_of_number (suc (suc (suc (suc y)))) = mark.Known (place_end.At y)

-- the number of a mark
abbrev pub number_of_mark : Mark → ℕ
number_of_mark mark.Unknown = 0
number_of_mark mark.Walked = 1
number_of_mark (mark.Known place_end.NoRoute) = 2
number_of_mark (mark.Known place_end.Loop) = 3
number_of_mark (mark.Known (place_end.At y)) = suc (suc (suc (suc y)))

-- a number comes back from its mark
pub number_of_mark-mark_of_number : (n : ℕ) → number_of_mark (mark_of_number n) ≡ n
number_of_mark-mark_of_number zero = refl
number_of_mark-mark_of_number (suc zero) = refl
number_of_mark-mark_of_number (suc (suc zero)) = refl
number_of_mark-mark_of_number (suc (suc (suc zero))) = refl
number_of_mark-mark_of_number (suc (suc (suc (suc y)))) = refl
