-- What a printed table says, said of all its lines at once.
use Rattle.std.specs.Prelude.{◌≡◌, ◌⊎◌, ◌↔◌, ℕ, suc, true, List, [], ◌∷◌, ◌++◌, map, length, Option, None, Some, Ok, Err}
use Rattle.std.specs.List.{AllByRecursion}
use Rattle.std.specs.FinMap as fin
use Rattle.net_names.specs.Lines.{kept_from}
use Rattle.net_names.specs.Numbers.{IsDistinct}
use Rattle.net_names.specs.Prefixes.{PrefixValue}
use Rattle.scenario_text.specs.Forms.{for_of}
use Rattle.stability_laws.specs.declared.entry.Entry.{Entry}
use Rattle.table_check.specs.Forms.{row_of}
use Rattle.table_check.specs.Printed.{with_rounds}
use Rattle.table_check.specs.Reading.{tables_by}
use Rattle.table_check.specs.declared.reading.TablesError.{TablesError}
use Rattle.table_check.specs.declared.reading.TablesError.TheVariants.{NoFor, Twice, Unreadable}
use Rattle.table_check.specs.declared.tables.Tables.{Tables}

-- a section: the number of its first line, and its rows
abbrev pub Section : Type 0
Section = ℕ × List (ℕ × Option Entry)

-- the lines are sections of the prefix, one for each round from this one on: its line `for R P`, and then rows (own
-- format)
abbrev pub AreSections : PrefixValue → ℕ → List (ℕ × List ℕ) → List Section → Type 0
AreSections prefix round lines [] = lines ≡ []
AreSections prefix round lines (s ∷ ss) = (text : List ℕ) × (own more : List (ℕ × List ℕ)) × (lines ≡ (s.0, text) ∷ own ++ more)
    × (for_of text ≡ Some (round, prefix)) × (map (λ l. row_of l.1) own ≡ map Some s.1) × AreSections prefix (suc round) more ss

-- the lines are the sections of a table, one at least, from round 1 on, in each of which an AS has one row at most;
-- with their rounds these are its rows (own format)
pub record AreTables (lines : List (ℕ × List ℕ)) (t : Tables) : Type 0 where
  pub first : Section
  pub more : List Section
  pub are : AreSections t.prefix 1 lines (first ∷ more)
  pub once : AllByRecursion (λ (s : Section). IsDistinct (map (λ row. row.0) s.1)) (first ∷ more)
  pub starts : t.starts ≡ map (λ s. s.0) (first ∷ more)
  pub rows : t.rows ≡ fin.from_entries (with_rounds 1 (map (λ s. s.1) (first ∷ more)))

-- a file is accepted, and says this, exactly where its lines that aren't skipped do (own format)
abbrev pub TablesAreThoseSaid : Type 0
TablesAreThoseSaid = (bytes : List ℕ) (t : Tables) → (tables_by (kept_from 1 bytes) ≡ Ok t) ↔ AreTables (kept_from 1 bytes) t

-- the fault of a line behind those of a table: it is neither the `for` line of the next section nor a row; or it is a
-- row of an AS that has one in the section (own format)
abbrev pub IsTableFault : Tables → ℕ × List ℕ → TablesError → Type 0
IsTableFault t line e = ((for_of line.1 ≡ Some (suc (length t.starts), t.prefix) → ⊥) × (row_of line.1 ≡ None) × (e ≡ Unreadable line.0))
    ⊎ ((row : ℕ × Option Entry) × (row_of line.1 ≡ Some row) × (fin.contains_key t.rows (length t.starts, row.0) ≡ true) × (e ≡ Twice line.0))

-- the first fault of lines: there is none of them; or the first one begins no section of round 1; or the lines before
-- this one are those of a table, behind which it has this fault (own format)
abbrev pub IsFirstTableFault : List (ℕ × List ℕ) → TablesError → Type 0
IsFirstTableFault lines e = ((lines ≡ []) × (e ≡ NoFor))
    ⊎ (((line : ℕ × List ℕ) × (back : List (ℕ × List ℕ)) × (lines ≡ line ∷ back) × ((p : PrefixValue) → for_of line.1 ≡ Some (1, p) → ⊥) × (e ≡ Unreadable line.0))
    ⊎ ((front : List (ℕ × List ℕ)) × (line : ℕ × List ℕ) × (back : List (ℕ × List ℕ)) × (t : Tables) × (lines ≡ front ++ line ∷ back) × AreTables front t × IsTableFault t line e))

-- a file is refused with a fault exactly where its first faulty line has it, or all its lines are skipped (own format)
abbrev pub TableFaultsAreFirst : Type 0
TableFaultsAreFirst = (bytes : List ℕ) (e : TablesError) → (tables_by (kept_from 1 bytes) ≡ Err e) ↔ IsFirstTableFault (kept_from 1 bytes) e
