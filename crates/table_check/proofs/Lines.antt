-- The lines of a printed table.
use Rattle.std.proofs.Common.{◌≡◌, ℕ, List, [], ◌∷◌, Result, refl}
use Rattle.std.specs.FinMap as map
use Rattle.net_names.specs.Lines.{said_on}
use Rattle.net_names.specs.Prefixes.{PrefixValue}
use Rattle.scenario_text.specs.FileLines.{by_for}
use Rattle.table_check.specs.declared.tables.Tables.{Tables}
use Rattle.table_check.specs.declared.reading.TablesError.{TablesError}
use Rattle.table_check.specs.declared.reading.TablesError.TheVariants.{NoFor, Unreadable}
use Rattle.table_check.specs.Reading.{tables_by, with_line}

-- the table of this prefix that has no section yet
abbrev pub none_yet : PrefixValue → Tables
none_yet prefix = record { prefix = prefix; starts = []; rows = map.empty }

pub tables_are : (lines : List (ℕ × List ℕ)) → tables_by lines ≡ by_for NoFor Unreadable (λ _ x _. said_on with_line (none_yet x.1) lines) lines
unfolding tables_by
tables_are [] = refl
tables_are (l ∷ ls) = refl
