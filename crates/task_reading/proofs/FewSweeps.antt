-- A file has no more sweeps than it may have.
use Rattle.std.proofs.Common.{◌≡◌, ◌≤◌, ℕ, Bool, true, false, cond, nat_lt, Option, Some, None, List, [], ◌∷◌, ◌++◌, length, ok_or, Result, Ok, Err, if◌then◌else◌, ap, refl, arith, length-append}
use Rattle.std.proofs.lemmas.Bool.{ltb-true}
use Rattle.net_names.specs.Lines.{kept_from, said_on}
use Rattle.net_names.specs.Trials.{◌>>=◌}
use Rattle.sweep.specs.Reading.{sweep_of, with_line}
use Rattle.scenario_text.specs.declared.line_faults.LinesError.{LinesError}
use Rattle.scenario_text.specs.declared.line_faults.LinesError.TheVariants.{Unreadable, TooMany}
use Rattle.sweep.specs.declared.sweeps.Sweep.{Sweep}

few_if : (before : List Sweep) (x : Sweep) (now : List Sweep) (e : LinesError) (b : Bool) → nat_lt (length before) 1000 ≡ b → cond b (Ok (before ++ x ∷ [])) (Err e) ≡ Ok now → length now ≤ 1000
few_if before x now e true less h =
    let same : before ++ x ∷ [] ≡ now = cc in
    omega (arith, ap length same, length-append before (x ∷ []), ltb-true (length before) 1000 less)
few_if before x now e false less h = cc

few_by : (o : Option Sweep) (before now : List Sweep) (n : ℕ) → (ok_or o (Unreadable n) >>= λ x. if nat_lt (length before) 1000 then Ok (before ++ x ∷ []) else Err (TooMany n)) ≡ Ok now → length now ≤ 1000
few_by None before now n h = cc
few_by (Some x) before now n h = few_if before x now (TooMany n) (nat_lt (length before) 1000) refl h

few_with : (step : Result (List Sweep) LinesError) (lines : List (ℕ × List ℕ)) (now : List Sweep) → ((mid : List Sweep) → length mid ≤ 1000 → said_on with_line mid lines ≡ Ok now → length now ≤ 1000)
    → ((mid : List Sweep) → step ≡ Ok mid → length mid ≤ 1000) → (step >>= λ mid. said_on with_line mid lines) ≡ Ok now → length now ≤ 1000
few_with (Ok mid) lines now more short h = more mid (short mid refl) h
few_with (Err e) lines now more short h = cc

few_after : (lines : List (ℕ × List ℕ)) (before now : List Sweep) → length before ≤ 1000 → said_on with_line before lines ≡ Ok now → length now ≤ 1000
unfolding said_on
few_after [] before now few h = let same : before ≡ now = cc in omega (arith, few, ap length same)
few_after (line ∷ lines) before now few h =
    few_with (with_line before line) lines now (λ mid short is. few_after lines mid now short is) (λ mid is. few_by (sweep_of line.0 line.1) before mid line.0 is) h

pub few_sweeps : (bytes : List ℕ) (s : List Sweep) → said_on with_line [] (kept_from 1 bytes) ≡ Ok s → length s ≤ 1000
few_sweeps bytes s h = few_after (kept_from 1 bytes) [] s (omega arith) h
