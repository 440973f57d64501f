-- The lines of a script, one after the other.
use Rattle.std.proofs.Common.{◌≡◌, ℕ, suc, List, [], ◌∷◌, ◌++◌, length, Result, Ok, Err, refl, ap, sym, ◌∙◌, arith}
use Rattle.std.proofs.lemmas.List.{length-append, append-nil}
use Rattle.net_names.specs.Lines.{kept_from}
use Rattle.scenario_text.specs.LineValues.{LineValue}
use Rattle.scenario_text.specs.declared.line_faults.LinesError.{LinesError}
use Rattle.scenario_text.specs.declared.line_faults.LinesError.TheVariants.{Memory, Unreadable, TooMany}
use Rattle.scenario_text.specs.Walks.{◌>>=◌, each_from}
use Rattle.scenario_text.specs.LineFaults.{Fails}
use Rattle.scenario_text.specs.Script.{command, script_of}
use Rattle.scenario_text.proofs.Walking.{each_from-values, with_front, with_front-nil, with_front-cons}

-- the lines so far, and then what further lines give behind them
abbrev pub script_on : List LineValue → List (ℕ × List ℕ) → Result (List LineValue) LinesError
script_on front lines = with_front front (each_from command (length front) lines)

pub starts : (bytes : List ℕ) → script_on [] (kept_from 1 bytes) ≡ script_of bytes
unfolding script_of
starts bytes = with_front-nil (each_from command 0 (kept_from 1 bytes)) ∙ sym (each_from-values command 0 (kept_from 1 bytes))

goes_on : (front : List LineValue) (line : ℕ × List ℕ) (lines more : List (ℕ × List ℕ)) (x : LineValue) (whole : Result (List LineValue) LinesError) → lines ≡ line ∷ more
    → command (length front) line ≡ Ok x → script_on front lines ≡ whole → script_on (front ++ x ∷ []) more ≡ whole
unfolding each_from
goes_on front line lines more x whole is read so_far =
    let one : script_on front lines ≡ with_front front (each_from command (suc (length front)) more >>= λ ys. Ok (x ∷ ys)) = rw (is, read) refl in
    let len : length (front ++ x ∷ []) ≡ suc (length front) = omega (arith, length-append front (x ∷ [])) in
    rw len (sym (with_front-cons front x (each_from command (suc (length front)) more)) ∙ sym one ∙ so_far)

stops : (e : LinesError) (front : List LineValue) (line : ℕ × List ℕ) (lines more : List (ℕ × List ℕ)) (whole : Result (List LineValue) LinesError) → lines ≡ line ∷ more
    → command (length front) line ≡ Err e → script_on front lines ≡ whole → whole ≡ Err e
unfolding each_from
stops e front line lines more whole is read so_far =
    let one : script_on front lines ≡ Err e = rw (is, read) refl in sym so_far ∙ one

pub keeps_at : (count : ℕ) (front : List LineValue) (line : ℕ × List ℕ) (lines more : List (ℕ × List ℕ)) (x : LineValue) (whole : Result (List LineValue) LinesError) → length front ≡ count → lines ≡ line ∷ more
    → command count line ≡ Ok x → script_on front lines ≡ whole → script_on (front ++ x ∷ []) more ≡ whole
keeps_at count front line lines more x whole n is read so_far = goes_on front line lines more x whole is (rw n read) so_far

pub fails_at : (count : ℕ) (e : LinesError) (front : List LineValue) (line : ℕ × List ℕ) (lines more : List (ℕ × List ℕ)) (whole : Result (List LineValue) LinesError) → length front ≡ count → lines ≡ line ∷ more
    → Fails e (command count line) → script_on front lines ≡ whole → Fails e whole
fails_at count Memory front line lines more whole n is read so_far = tt
fails_at count (Unreadable m) front line lines more whole n is read so_far = stops (Unreadable m) front line lines more whole is (rw n read) so_far
fails_at count (TooMany m) front line lines more whole n is read so_far = stops (TooMany m) front line lines more whole is (rw n read) so_far

pub ends : (front : List LineValue) (lines : List (ℕ × List ℕ)) (whole : Result (List LineValue) LinesError) → lines ≡ [] → script_on front lines ≡ whole → whole ≡ Ok front
unfolding each_from
ends front lines whole e so_far =
    let one : script_on front lines ≡ Ok front = rw e (ap (λ (zs : List LineValue). Ok zs) (append-nil front)) in sym so_far ∙ one
