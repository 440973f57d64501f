-- The lines of a generated input (own format).
use Rattle.std.specs.Prelude.{ℕ, ◌+◌, ◌*◌, ◌%◌, List, [], ◌∷◌, ◌++◌, slice_get}
use Rattle.std.specs.FinMap.{entries, len}
use Rattle.std.specs.List.{flat_map, range_with_len}
use Rattle.std.specs.Option.{option_map_or}
use Rattle.net_names.specs.Links.{LinkMap}
use Rattle.net_names.specs.declared.routes.Rel.{Rel}
use Rattle.scenario_text.specs.LineValues.{LineValue}
use Rattle.scenario_text.specs.declared.acts.Act.TheVariants.{Query, Edit}
use Rattle.scenario_text.specs.declared.acts.Edit.TheVariants.{Link, Unlink}
use Rattle.scenario_text.specs.declared.acts.Query.TheVariants.{Report}
use Rattle.topo_gen.specs.Scenarios.{host}

-- the line of this number asks for the report of the address in a half of 10.0.0.0/8 in a round
abbrev pub report : ℕ → ℕ → ℕ → LineValue
report number round half = record { number = number; act = Query (Report round (host half)) }

-- reports of both rounds and addresses; from line 5 on ten links cut and joined again, those at every 37th place, round and round, in the rising order of their pairs; and the first report of round 2 once more
unfoldable pub drawn_lines : LinkMap → List LineValue
drawn_lines links = report 1 1 0 ∷ report 2 1 1 ∷ report 3 2 0 ∷ report 4 2 1 ∷ flat_map (λ i.
    option_map_or (λ e. record { number = 5 + 2 * i; act = Edit (Unlink e.0.0 e.0.1) } ∷
    record { number = 5 + 2 * i + 1; act = Edit (Link e.0.0 e.0.1 e.1) } ∷ [])
    (slice_get (entries links) (37 * i % len links)) []) (range_with_len 0 10) ++ report 25 2 0 ∷ []

-- the link is cut in the line of this number and joined again in the next
abbrev pub rejoined : ℕ → (ℕ × ℕ) × Rel → List LineValue
rejoined n e = record { number = n; act = Edit (Unlink e.0.0 e.0.1) }
    ∷ record { number = n + 1; act = Edit (Link e.0.0 e.0.1 e.1) } ∷ []

-- the lines that cut the link at the 37th place of the number i, round and round, and join it again
abbrev pub edits_at : LinkMap → ℕ → List LineValue
edits_at links i = option_map_or (rejoined (5 + 2 * i)) (slice_get (entries links) (37 * i % len links)) []
