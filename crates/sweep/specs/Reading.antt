-- A file of sweeps: a line for each, or the fault of its first faulty line (own format).
use Rattle.std.specs.Prelude.{◌≡◌, ℕ, ◌^◌, ◌&&◌, List, [], ◌∷◌, ◌++◌, length, nat_lt, nat_le, Option, ok_or, Result, Ok, Err, if◌then◌else◌}
use Rattle.net_names.specs.Lines.{said_on}
use Rattle.net_names.specs.Steps.{option_filter}
use Rattle.net_names.specs.Texts.{numeral, addr_of}
use Rattle.net_names.specs.Trials.{◌>>=◌}
use Rattle.policy_kinds.specs.Names.{kind_named}
use Rattle.scenario_text.specs.LineFaults.{Fails}
use Rattle.scenario_text.specs.Forms.{few_numbers, form, pair}
use Rattle.sweep.specs.declared.sweeps.Sweep.{Sweep}
use Rattle.sweep.specs.declared.sweeps.TheConstants.{MOST_NUMBERS, MOST_SWEEPS, MOST_TRIALS}
use Rattle.scenario_text.specs.declared.line_faults.LinesError.{LinesError}
use Rattle.scenario_text.specs.declared.line_faults.LinesError.TheVariants.{Memory, Unreadable, TooMany}

-- the sweep that the line of this number asks for: `sweep KIND R D SEED TRIALS K ..`, a round R being 1 to 9 digits, D an address, a seed 1 to 10 digits with a value up to 4294967295, the number of trials 1 to 4 digits with a value from 1 to 1,000, and the numbers of adopters 1 to 32 of 1 to 6 digits each, with one space between (own format)
unfoldable pub sweep_of : ℕ → List ℕ → Option Sweep
sweep_of number = form "sweep " (pair 32 kind_named (pair 32 (numeral 10 9) (pair 32 addr_of
    (pair 32 (λ t. option_filter (λ n. nat_lt n (2 ^ 32)) (numeral 10 10 t)) (pair 32
    (λ t. option_filter (λ n. nat_lt 0 n && nat_le n MOST_TRIALS) (numeral 10 4 t))
    (λ t. option_filter (λ ks. nat_le (length ks) MOST_NUMBERS) (few_numbers (numeral 10 6) t)))))))
    (λ x. record { line = number; kind = x.0; round = x.1.0; addr = x.1.1.0; seed = x.1.1.1.0; trials = x.1.1.1.1.0; ks = x.1.1.1.1.1 })

-- the sweeps with that of one line more, which isn't skipped and is given with its number: its form is judged first, and then that fewer than 1,000 stand before it (own format)
abbrev pub with_line : List Sweep → (ℕ × List ℕ) → Result (List Sweep) LinesError
with_line sweeps l = ok_or (sweep_of l.0 l.1) (Unreadable l.0) >>= λ s.
    if nat_lt (length sweeps) MOST_SWEEPS then Ok (sweeps ++ s ∷ []) else Err (TooMany l.0)

-- the sweeps that the lines of a file ask for, one after the other (own format)
abbrev pub sweeps_by : List (ℕ × List ℕ) → Result (List Sweep) LinesError
sweeps_by lines = said_on with_line [] lines

-- a reading that fails as another one does fails in the same way
pub fails_on : (e : LinesError) (r s : Result (List Sweep) LinesError) → ((f : LinesError) → r ≡ Err f → s ≡ Err f) → Fails e r → Fails e s
fails_on Memory r s same is = tt
fails_on (Unreadable line) r s same is = same (Unreadable line) is
fails_on (TooMany line) r s same is = same (TooMany line) is
