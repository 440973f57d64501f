-- Lines of texts.
use Rattle.std.specs.Prelude.{ℕ, ◌+◌, Bool, ◌&&◌, not, nat_eq, List, count_by, take, string_bytes}
use Rattle.std.specs.List.{common_prefix_len, list_all}
use Rattle.std.specs.declared.alloc.Global.{Global}
use Rattle.std.specs.declared.string.String.{String}
use Rattle.clap.specs.Walk.{Text}
use Rattle.cases.specs.declared.case.Case.{Case}
use Rattle.cases.specs.declared.case.CaseFile.{CaseFile}

-- whether a text stands in one line, so that it has no line feed (own format)
abbrev pub is_one_line : Text → Bool
is_one_line text = list_all (λ b. not (nat_eq b 10)) text

-- whether each of these texts stands in one line (own format)
abbrev pub are_one_line : List (String Global) → Bool
are_one_line texts = list_all (λ text. is_one_line (string_bytes text)) texts

-- whether the name of each of these files stands in one line (own format)
abbrev pub are_named_in_one_line : List CaseFile → Bool
are_named_in_one_line files = list_all (λ file. is_one_line (string_bytes file.name)) files

-- whether the name of a case, each of its words and the name of each of its files stand in one line each (own format)
abbrev pub has_one_lines : Case → Bool
has_one_lines c = is_one_line (string_bytes c.name) && are_one_line c.words.items && are_named_in_one_line c.files.items

-- the number of the first line in which two texts differ, counted from 1: one more than the line feeds of what both begin with (own format)
abbrev pub line_of : Text → Text → ℕ
line_of text other = count_by (λ b. nat_eq b 10) (take (common_prefix_len nat_eq text other) text) + 1
