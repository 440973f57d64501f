-- The texts of places (own format).
use Rattle.std.specs.Prelude.{ℕ, List, [], ◌∷◌, ◌++◌, codes, decimal, Option}
use Rattle.std.specs.Option.{option_map_or}
use Rattle.scenario_text.specs.declared.places.Place.{Place}
use Rattle.scenario_text.specs.Places.{member_name, part_name}

-- a position in brackets (own format)
abbrev pub position_text : Option ℕ → List ℕ
position_text position = option_map_or (λ i. 91 ∷ decimal i ++ 93 ∷ []) position []

-- the text of a place: the member's name, or `document` where there is none; the position in it; a dot and the name of the member of the object there; and the position in that (own format)
abbrev pub place_text : Place → List ℕ
place_text p = option_map_or member_name p.member (codes "document") ++ (position_text p.first ++ (option_map_or (λ part. 46 ∷ part_name part) p.part [] ++ position_text p.second))
