-- The lines of a file.
use Rattle.std.specs.Prelude.{ℕ, ◌≢◌, List, All}

-- No line feed stands in the text: it is one line.
abbrev pub IsOneLine : List ℕ → Type 0
IsOneLine text = All (λ byte. byte ≢ 10) text
