-- Printed tables, said by the rows that a script's answers have (own format).
use Rattle.std.specs.Prelude.{◌≡◌, ℕ, ◌+◌, ◌^◌, ◌<◌, ◌≤◌, Option, List, [], ◌∷◌, ◌++◌, codes, decimal, length, map as each, IfSome, suc, Ok}
use Rattle.std.specs.List.{AllByRecursion, flat_map}
use Rattle.std.specs.FinMap as map
use Rattle.net_names.specs.Lines.{kept_from}
use Rattle.net_names.specs.Numbers.{IsDistinct}
use Rattle.net_names.specs.Prefixes.{PrefixValue, IsPrefix}
use Rattle.net_names.specs.Texts.{prefix_text}
use Rattle.stability_laws.specs.EntryTexts.{entry_row}
use Rattle.stability_laws.specs.declared.entry.Entry.{Entry}
use Rattle.table_check.specs.Reading.{tables_by}

-- the line with which a section begins, without its line feed (own format)
abbrev pub for_text : ℕ → PrefixValue → List ℕ
for_text round prefix = codes "for " ++ (decimal round ++ (32 ∷ prefix_text prefix))

-- sections of a prefix, one for each list of rows, from this round on (own format)
abbrev pub sections_text : ℕ → PrefixValue → List (List (ℕ × Option Entry)) → List ℕ
sections_text round prefix [] = []
sections_text round prefix (rows ∷ more) = for_text round prefix ++ (10 ∷ (flat_map (λ row. entry_row row.0 row.1) rows ++ sections_text (suc round) prefix more))

-- the number is one that an AS has (RFC 6793; RFC 7607 rules out 0)
abbrev pub IsAsn : ℕ → Type 0
IsAsn n = (1 ≤ n) × (n < 2 ^ 32)

-- an entry can be printed where its path has a number, and all its numbers are those of ASes
pub record IsPrintable (e : Entry) : Type 0 where
  pub some : 1 ≤ length e.path
  pub path : AllByRecursion IsAsn e.path
  pub otc : IfSome e.otc IsAsn

-- a row can be printed
pub record IsRow (row : ℕ × Option Entry) : Type 0 where
  pub asn : IsAsn row.0
  pub held : IfSome row.1 IsPrintable

-- rows can be printed as one section: each can, and no AS has two
abbrev pub IsSection : List (ℕ × Option Entry) → Type 0
IsSection rows = AllByRecursion IsRow rows × IsDistinct (each (λ row. row.0) rows)

-- the rows of sections, from this round on, each with its round
abbrev pub with_rounds : ℕ → List (List (ℕ × Option Entry)) → List ((ℕ × ℕ) × Option Entry)
with_rounds round [] = []
with_rounds round (rows ∷ more) = each (λ row. ((round, row.0), row.1)) rows ++ with_rounds (suc round) more

-- a table that is printed is read again: it has a section for each list of rows, with just these rows (own format)
abbrev pub PrintedTablesAreRead : Type 0
PrintedTablesAreRead = (prefix : PrefixValue) (rows : List (ℕ × Option Entry)) (more : List (List (ℕ × Option Entry))) →
    IsPrefix prefix.family prefix.addr prefix.len → AllByRecursion IsSection (rows ∷ more) → length more + 1 < 10 ^ 9 →
    (starts : List ℕ) × (length starts ≡ length more + 1)
    × (tables_by (kept_from 1 (sections_text 1 prefix (rows ∷ more))) ≡ Ok (record { prefix = prefix; starts = starts; rows = map.from_entries (with_rounds 1 (rows ∷ more)) }))
