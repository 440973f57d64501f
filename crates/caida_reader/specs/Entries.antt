-- A pair with its first line, in twelve bytes.
use Rattle.std.specs.Prelude.{ℕ, ◌==◌, ◌/◌, ◌%◌, if◌then◌else◌}
use Rattle.net_names.specs.declared.routes.Rel.{Rel}
use Rattle.net_names.specs.declared.routes.Rel.TheVariants.{Customer, Peer, Provider}
use Rattle.caida_reader.specs.declared.firsts.First.{First}
use Rattle.caida_reader.specs.declared.entry.Entry.{Entry}

-- The relation of a code.
abbrev pub rel_at : ℕ → Rel
rel_at code = if code == 0 then Customer else if code == 1 then Peer else Provider

-- The relation and the line of a number: it is four times the line, and the code of the relation.
abbrev pub first_in : ℕ → First
first_in number = record { rel = rel_at (number % 4); line = number / 4 }

-- The pair of an entry, and its first line.
abbrev pub entry_of : Entry → (ℕ × ℕ) × First
entry_of entry = ((entry.a, entry.b), first_in entry.first)
