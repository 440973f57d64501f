-- What is said of a bundle.
use Rattle.std.specs.Prelude.{◌≡◌, ◌⊎◌, ℕ, Bool, true, false, not, ◌&&◌, ◌||◌, ◌==◌, length, List, [], ◌∷◌, ◌++◌, if◌then◌else◌, codes, count_by, decimal, string_bytes}
use Rattle.std.specs.List.{AllZip, flat_map, list_all, list_any, zip}
use Rattle.std.specs.Str.{bytes_eq}
use Rattle.std.specs.declared.alloc.Global.{Global}
use Rattle.std.specs.declared.string.String.{String}
use Rattle.clap.specs.Walk.{Text}
use Rattle.asprop_run.specs.Streams.{Stream}
use Rattle.cases.specs.Runs.{IsJudged}
use Rattle.cases.specs.Lines.{are_one_line, has_one_lines, line_of}
use Rattle.cases.specs.Texts.{bundle_text, line}
use Rattle.cases.specs.declared.case.Case.{Case}

-- whether one of the cases has this name
abbrev pub has_name : Text → List Case → Bool
has_name name cases = list_any (λ c. bytes_eq (string_bytes c.name) name) cases

-- whether a name stands twice
abbrev pub has_twice : List Case → Bool
has_twice [] = false
has_twice (c ∷ cases) = has_name (string_bytes c.name) cases || has_twice cases

-- the line of a case that failed, and none of one that passed (own format)
abbrev pub failed_text : Case × Bool → Text
failed_text (c, passed) = if passed then [] else line (codes "failed:") (string_bytes c.name)

-- what is said of cases by whether they passed: a line for each that failed, and last how many passed and how many failed (own format)
abbrev pub report_text : List Case → List Bool → Text
report_text cases passed = flat_map failed_text (zip cases passed)
    ++ (decimal (count_by (λ b. b) passed) ++ (codes " passed, " ++ (decimal (count_by not passed) ++ codes " failed\n")))

-- what is said of a text that is no bundle, with the number of a line (own format)
abbrev pub faulty_text : ℕ → Text
faulty_text line = codes "faulty from line " ++ (decimal line ++ codes " on\n")

-- whether notes and cases are those of a bundle: there are cases, each with a name of its own, and each name, word and note stands in one line (own format)
abbrev pub are_of_bundle : List (String Global) → List Case → Bool
are_of_bundle notes cases = not (length cases == 0) && not (has_twice cases) && are_one_line notes && list_all has_one_lines cases

-- the text is a bundle of these cases; since names, words and notes stand in one line, none of them swallows a case (own format)
pub record IsBundle (text : Text) (cases : List Case) : Type 0 where
  pub notes : List (String Global)
  pub is : text ≡ bundle_text notes cases
  pub of_bundle : are_of_bundle notes cases ≡ true

-- the text is not the bundle of the notes and cases that it seems to have, or these are none of a bundle; from this line on it differs from their text (own format)
pub record IsFaultyFrom (text : Text) (line : ℕ) : Type 0 where
  pub notes : List (String Global)
  pub cases : List Case
  pub none : text ≡ bundle_text notes cases → are_of_bundle notes cases ≡ false
  pub line_is : line ≡ line_of text (bundle_text notes cases)

-- each of the cases was run, and it was said which of them left what they want; the answer is whether all did. Or the output failed: then a front of that was said, and the answer is that not all passed (own format)
pub record IsReported (cases : List Case) (passed : Bool) (out : Stream) : Type 0 where
  pub each : List Bool
  pub judged : AllZip IsJudged cases each
  pub said : (out.wrote (report_text cases each) × (passed ≡ list_all (λ b. b) each)) ⊎ (out.failed (report_text cases each) × (passed ≡ false))

-- a text was checked: it is a bundle, whose cases were reported; or it is none, which was said with the number of a line, or a front of that where the output failed, and the answer is that not all passed (own format)
abbrev pub IsChecked : Text → Bool → Stream → Type 0
IsChecked text passed out = ((cases : List Case) × IsBundle text cases × IsReported cases passed out)
    ⊎ ((passed ≡ false) × (line : ℕ) × IsFaultyFrom text line × (out.wrote (faulty_text line) ⊎ out.failed (faulty_text line)))
