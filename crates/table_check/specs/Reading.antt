-- A printed table: its rows and where its sections begin, or the fault of its first faulty line (own format).
use Rattle.std.specs.Prelude.{◌≡◌, ℕ, ◌+◌, ◌&&◌, ◌==◌, List, [], ◌∷◌, ◌++◌, length, Option, option_map, ok_or, slice_get, unwrap_or, Result, Ok, Err, if◌then◌else◌}
use Rattle.std.specs.Ordering.{eq_by_cmp}
use Rattle.std.specs.FinMap as map
use Rattle.net_names.specs.Lines.{said_on}
use Rattle.net_names.specs.Prefixes.{prefix_cmp}
use Rattle.net_names.specs.Steps.{option_filter}
use Rattle.net_names.specs.Trials.{◌>>=◌}
use Rattle.scenario_text.specs.FileLines.{GivesOrFails}
use Rattle.scenario_text.specs.Forms.{for_of}
use Rattle.stability_laws.specs.declared.entry.Entry.{Entry}
use Rattle.table_check.specs.declared.tables.Tables.{Tables}
use Rattle.table_check.specs.declared.reading.TablesError.{TablesError}
use Rattle.table_check.specs.declared.reading.TablesError.TheVariants.{Memory, Unreadable, Twice, NoFor}
use Rattle.table_check.specs.Forms.{row_of}

-- a reading fails in this way; want of memory says nothing of it
abbrev pub Fails : {X : Type 0} → TablesError → Result X TablesError → Type 0
Fails Memory reading = Unit {0}
Fails e reading = reading ≡ Err e

-- a reading that fails as another one does fails in the same way
pub fails_on : (e : TablesError) (r s : Result Tables TablesError) → ((f : TablesError) → r ≡ Err f → s ≡ Err f) → Fails e r → Fails e s
fails_on Memory r s same fails = tt
fails_on e r s same fails = same e fails

-- with a row of the last section, in the line of this number: an AS has one row in a section (own format)
abbrev pub with_row : Tables → ℕ → ℕ × Option Entry → Result Tables TablesError
with_row t n row = if map.contains_key t.rows (length t.starts, row.0) then Err (Twice n)
    else Ok (record t { rows = map.insert t.rows (length t.starts, row.0) row.1 })

-- with a line: `for R P` begins a section where R is the next round, from 1 on, and P is the
-- prefix; any other line is a row (own format)
abbrev pub with_line : Tables → ℕ × List ℕ → Result Tables TablesError
with_line t l = unwrap_or (option_map (λ _. Ok (record t { starts = t.starts ++ l.0 ∷ [] }))
    (option_filter (λ x. (x.0 == length t.starts + 1) && eq_by_cmp prefix_cmp t.prefix x.1)
    (for_of l.1))) (ok_or (row_of l.1) (Unreadable l.0) >>= with_row t l.0)

-- what lines say, of which the first is `for R P` (own format)
unfoldable pub tables_by : List (ℕ × List ℕ) → Result Tables TablesError
tables_by ls = ok_or (slice_get ls 0) NoFor >>= λ l. ok_or (for_of l.1) (Unreadable l.0) >>= λ x.
    said_on with_line (record { prefix = x.1; starts = []; rows = map.empty }) ls

-- what was returned is what the reading gives, unless memory ran out
abbrev pub Gives : {X : Type 0} → Result X TablesError → Result X TablesError → Type 0
Gives result reading = GivesOrFails Fails result reading
