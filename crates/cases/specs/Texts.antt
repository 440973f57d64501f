-- How a bundle is written.
use Rattle.std.specs.Prelude.{ℕ, ◌+◌, ◌-◌, ◌/◌, ◌%◌, Bool, ◌&&◌, ◌||◌, nat_eq, nat_le, nat_lt, if◌then◌else◌, List, [], ◌∷◌, ◌++◌, codes, decimal, string_bytes}
use Rattle.std.specs.List.{flat_map}
use Rattle.std.specs.declared.string.String.{String}
use Rattle.std.specs.declared.alloc.Global.{Global}
use Rattle.clap.specs.Walk.{Text}
use Rattle.cases.specs.declared.case.Case.{Case}
use Rattle.cases.specs.declared.case.CaseFile.{CaseFile}
use Rattle.cases.specs.declared.case.Way.{Way}

-- a hexadecimal digit, of `0` to `9` and `a` to `f` (own format)
abbrev pub digit : ℕ → ℕ
digit n = if nat_lt n 10 then 48 + n else 97 + (n - 10)

-- a printable byte of ASCII other than the backslash, which stands for itself (own format)
abbrev pub is_plain : ℕ → Bool
is_plain b = nat_le 32 b && nat_le b 126 && (nat_lt b 92 || nat_lt 92 b)

-- a byte of a file or a stream: a line feed ends the line and begins the next one with `|`, a plain byte stands for itself, and any other one is a backslash and two hexadecimal digits (own format)
abbrev pub shown : ℕ → Text
shown b = if nat_eq b 10 then 10 ∷ 124 ∷ [] else if is_plain b then b ∷ [] else 92 ∷ digit (b / 16) ∷ digit (b % 16) ∷ []

-- the bytes of a file or a stream: lines that begin with `|`, with the line feeds between them (own format)
abbrev pub content : Text → Text
content bytes = 124 ∷ flat_map shown bytes ++ 10 ∷ []

-- a line of this word and what it is about (own format)
abbrev pub line : Text → Text → Text
line word about = word ++ (32 ∷ (about ++ 10 ∷ []))

-- a line of this word for each of these texts (own format)
abbrev pub lines : Text → List (String Global) → Text
lines word texts = flat_map (λ text. line word (string_bytes text)) texts

-- a file, its name first (own format)
abbrev pub file_text : CaseFile → Text
file_text file = line (codes "file") (string_bytes file.name) ++ content file.bytes.items

-- a way to run, with its four numbers (own format)
abbrev pub way_text : Way → Text
way_text w = codes "run " ++ (decimal w.most ++ (32 ∷ (decimal w.read ++ (32 ∷ (decimal w.write ++ (32 ∷ (decimal w.tell ++ 10 ∷ [])))))))

-- how a case is run: its name, words, files and ways (own format)
abbrev pub run_text : Case → Text
run_text c = line (codes "case") (string_bytes c.name) ++ lines (codes "word") c.words.items ++ flat_map file_text c.files.items ++ flat_map way_text c.ways.items

-- what a case wants: the status, the output and the fault text (own format)
abbrev pub wanted_text : Case → Text
wanted_text c = line (codes "status") (decimal c.status) ++ (codes "out\n" ++ content c.out.items) ++ (codes "err\n" ++ content c.err.items)

-- a case: how it is run, and what it wants (own format)
unfoldable pub case_text : Case → Text
case_text c = run_text c ++ wanted_text c

-- a bundle: its first line, a line for each of its notes, its cases, and its last line (own format)
abbrev pub bundle_text : List (String Global) → List Case → Text
bundle_text notes cases = codes "asprop cases 1\n" ++ (lines (codes "#") notes ++ (flat_map case_text cases ++ codes "end\n"))
