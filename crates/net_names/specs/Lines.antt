-- The lines of a file that count, and what they say one after the other (own format).
use Rattle.std.specs.Prelude.{◌≡◌, ℕ, ◌+◌, not, if◌then◌else◌, List, [], ◌∷◌, map, filter, Result, Ok, Err}
use Rattle.std.specs.List.{enumerate_from}
use Rattle.std.specs.Str.Lines.{strip_carriage_return}
use Rattle.net_names.specs.Texts.{fields, is_skipped}
use Rattle.net_names.specs.Trials.{◌>>=◌}

-- the lines that aren't skipped, each with its number, where the first of all has this number. The lines are the bytes between line feeds, each without one carriage return at its end. What stands after the last line feed is a line too; where nothing stands there, that line is empty, and so it is skipped (own format)
abbrev pub kept_from : ℕ → List ℕ → List (ℕ × List ℕ)
kept_from number bytes = filter (λ l. not (is_skipped l.1)) (enumerate_from number (map strip_carriage_return (fields 10 bytes)))

-- the bytes are a line and then the rest, for the lines that aren't skipped
abbrev pub IsLineAndRest : List ℕ → List ℕ → List ℕ → Type 0
IsLineAndRest bytes line rest = (number : ℕ) → kept_from number bytes
    ≡ (if not (is_skipped line) then (number, line) ∷ kept_from (number + 1) rest else kept_from (number + 1) rest)

-- what lines, or other items, say one after the other, behind what was said before, or the first fault (own format)
unfoldable pub said_on : {S X E : Type 0} → (S → X → Result S E) → S → List X → Result S E
said_on says said [] = Ok said
said_on says said (x ∷ xs) = says said x >>= λ now. said_on says now xs

-- what was returned is what the reading gives, or a fault with which the reading fails in this way
abbrev pub GivesOrFails : {X E : Type 0} → (E → Result X E → Type 0) → Result X E → Result X E → Type 0
GivesOrFails Fails (Ok x) reading = reading ≡ Ok x
GivesOrFails Fails (Err e) reading = Fails e reading
