-- The tables of the prefixes that hold an address.
use Rattle.std.specs.Prelude.{ℕ, Option, None, List, fold}
use Rattle.route_choice.specs.Tables.{held_at}
use Rattle.data_trace.specs.declared.best.Best.{Best}
use Rattle.data_trace.specs.declared.candidate.Candidate.{Candidate}
use Rattle.data_trace.specs.Best.{better_of}

-- the best entry of an AS in these tables
abbrev pub best_among : List Candidate → ℕ → Option Best
best_among xs a = fold (λ best c. better_of best c.prefix (held_at c.table.now a)) None xs
