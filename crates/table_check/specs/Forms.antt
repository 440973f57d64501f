-- The forms of a printed table's rows (own format).
use Rattle.std.specs.Prelude.{ℕ, List, map, bytes_eq, codes, Option, Some, None, option_map, if◌then◌else◌}
use Rattle.std.specs.Bool.{then_some}
use Rattle.std.specs.List.{list_all}
use Rattle.std.specs.Option.{is_some, option_zip, some_prefix}
use Rattle.net_names.specs.Texts.{asn_of, class_named, cut_at, fields}
use Rattle.scenario_text.specs.Forms.{form, pair}
use Rattle.stability_laws.specs.declared.entry.Entry.{Entry}

-- one AS number or more, with one space between (own format)
abbrev pub numbers_of : List ℕ → Option (List ℕ)
numbers_of t = let ns = map asn_of (fields 32 t) in then_some (list_all is_some ns) (some_prefix ns)

-- N N .., or N N ..|otc M: a path, and the number of the attribute Only to Customer where there is
-- one (RFC 9234, section 5)
abbrev pub way_of : List ℕ → Option (List ℕ × Option ℕ)
way_of text = elim (cut_at 124 text) [ None ↦ option_map (λ path. (path, None)) (numbers_of text) | Some p ↦ option_zip (numbers_of p.0) (form "otc " asn_of (λ m. Some m) p.1) ]

-- A|none|, or A, `|`, a class and what `way_of` reads behind a further `|`: a row says that A holds
-- nothing, or this entry (own format)
unfoldable pub row_of : List ℕ → Option (ℕ × Option Entry)
row_of = pair 124 asn_of (λ text. if bytes_eq text (codes "none|") then Some None else option_map (λ x. Some (record { class = x.0; path = x.1.0; otc = x.1.1 })) (pair 124 class_named way_of text))
