-- The texts of entries: what a row of a printed table says.
use Rattle.std.specs.Prelude.{ℕ, Option, None, Some, List, [], ◌∷◌, ◌++◌, codes, decimal}
use Rattle.std.specs.List.{join_with_byte}
use Rattle.std.specs.Option.{option_map_or}
use Rattle.net_names.specs.Texts.{class_word, numbers_text}
use Rattle.stability_laws.specs.declared.entry.Entry.{Entry}

-- the cells with `|` between, and a line feed (own format)
abbrev pub row : List (List ℕ) → List ℕ
row cells = join_with_byte 124 cells ++ 10 ∷ []

-- what a row says of the entry: the class word, `|`, the path, and at the end the number of RFC
-- 9234 that it has; `none` and `|` where there is no entry (own format)
abbrev pub entry_text : Option Entry → List ℕ
entry_text held = elim held [ None ↦ codes "none|" | Some e ↦ class_word e.class ++ (124 ∷ (numbers_text e.path ++ option_map_or (λ n. codes "|otc " ++ decimal n) e.otc [])) ]

-- the row of an AS: its number, `|`, its entry and a line feed (own format)
abbrev pub entry_row : ℕ → Option Entry → List ℕ
entry_row a held = row (decimal a ∷ entry_text held ∷ [])
