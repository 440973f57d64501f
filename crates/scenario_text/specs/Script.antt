-- A script: its lines, or the fault of its first faulty line (own format).
use Rattle.std.specs.Prelude.{ℕ, List, map, fold, nat_lt, None, ok_or, Result, Ok, Err, if◌then◌else◌}
use Rattle.std.specs.List.{enumerate_from}
use Rattle.std.specs.Option.{option_or}
use Rattle.std.specs.Result.{result_err, ok_prefix}
use Rattle.net_names.specs.Lines.{kept_from}
use Rattle.net_names.specs.Steps.{unless}
use Rattle.scenario_text.specs.LineValues.{LineValue}
use Rattle.scenario_text.specs.declared.line_faults.LinesError.{LinesError}
use Rattle.scenario_text.specs.declared.line_faults.LinesError.TheVariants.{Unreadable, TooMany}
use Rattle.scenario_text.specs.Walks.{◌>>=◌}
use Rattle.scenario_text.specs.Forms.{act_of}
use Rattle.scenario_text.specs.declared.script.TheConstants.{MOST_COMMANDS}

-- what a line says that isn't skipped, given with its number, where so many others stand before it: its form is judged first, and then that fewer than 100,000 stand before it (own format)
abbrev pub command : ℕ → (ℕ × List ℕ) → Result LineValue LinesError
command before l = ok_or (act_of l.1) (Unreadable l.0) >>= λ act. if nat_lt before MOST_COMMANDS
    then Ok (record { number = l.0; act = act }) else Err (TooMany l.0)

-- the lines of a script, or the fault of its first faulty line (own format)
unfoldable pub script_of : List ℕ → Result (List LineValue) LinesError
script_of bytes = let lines = map (λ l. command l.0 l.1) (enumerate_from 0 (kept_from 1 bytes)) in
    unless (fold option_or None (map result_err lines)) (Ok (ok_prefix lines))
