-- Entries whose paths go through an AS.
use Rattle.std.specs.Prelude.{ℕ, Bool, false, Option, None, Some}
use Rattle.net_names.specs.Numbers.{occurs}
use Rattle.stability_laws.specs.declared.entry.Entry.{Entry}

-- There is an entry, and its path goes through the AS.
abbrev pub goes_through : Option Entry → ℕ → Bool
goes_through None a = false
goes_through (Some e) a = occurs a e.path
