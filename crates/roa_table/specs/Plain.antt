-- Rows without quotes, as they stand in a file.
use Rattle.std.specs.Prelude.{◌≡◌, ℕ, ◌||◌, ◌==◌, ◌⊎◌, Bool, true, not, List, [], ◌∷◌, ◌++◌, Result, ⊤}
use Rattle.std.specs.List.{list_all}
use Rattle.net_names.specs.Payloads.{VrpValue}
use Rattle.csv.specs.declared.parser.State.TheVariants as st
use Rattle.roa_table.specs.Standing.{Record, records_left}
use Rattle.roa_table.specs.Judging.{judged}
use Rattle.roa_table.specs.Files.{rows_of}
use Rattle.roa_table.specs.declared.errors.VrpError.{VrpError}

-- whether a byte ends a line, or is a quote
abbrev pub stops_line : ℕ → Bool
stops_line b = (b == 34) || ((b == 13) || (b == 10))

-- whether a byte ends a field or a line, or is a quote
abbrev pub stops_field : ℕ → Bool
stops_field b = (b == 44) || stops_line b

-- the text has bytes that stop no field, and then this, which begins with one that does, or is empty
pub record SplitsField (text field more : List ℕ) : Type 0 where
  pub free : list_all (λ b. not (stops_field b)) field ≡ true
  pub whole : text ≡ field ++ more
  pub stops : (stop : ℕ) (behind : List ℕ) → more ≡ stop ∷ behind → stops_field stop ≡ true

-- a line ends here: with a line feed, or with the text
abbrev pub IsLineEnd : List ℕ → Type 0
IsLineEnd [] = ⊤
IsLineEnd (byte ∷ behind) = byte ≡ 10

-- the text has bytes that stop no line, maybe a carriage return, and then this, with which the line ends
pub record EndsLine (text rest : List ℕ) : Type 0 where
  pub part : List ℕ
  pub free : list_all (λ b. not (stops_line b)) part ≡ true
  pub ends : IsLineEnd rest
  pub whole : (text ≡ part ++ rest) ⊎ (text ≡ part ++ 13 ∷ rest)

-- the first record of a text gives this in a row of that number, and the other records are those of what is left
pub record BeginsWith (text : List ℕ) (row : ℕ) (outcome : Result VrpValue VrpError) (left : List ℕ) : Type 0 where
  pub fields : Record
  pub is : records_left st.StartRecord text ≡ fields ∷ records_left st.StartRecord left
  pub gives : outcome ≡ judged row fields
  pub ends : IsLineEnd left

-- the rows of a file are the records of what its header leaves
pub record BeginsRows (text left : List ℕ) : Type 0 where
  pub is : rows_of text ≡ records_left st.StartRecord left
  pub ends : IsLineEnd left
