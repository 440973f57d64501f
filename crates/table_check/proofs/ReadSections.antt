-- Printed sections are read again.
use Rattle.std.proofs.Common.{◌≡◌, ◌≢◌, ℕ, suc, ◌+◌, ◌^◌, ◌<◌, ◌≤◌, Bool, true, false, cond, ◌&&◌, List, [], ◌∷◌, ◌++◌, length, map as each, Option, Some, None, option_map, Result, Ok, Err, append_assoc, append-nil, length-append, lit<, true≢false, refl, ap, sym, ◌∙◌, arith, eq-eqb}
use Rattle.std.specs.Prelude.{codes, decimal, ◌==◌, if◌then◌else◌, is_some, ok_or, unwrap_or}
use Rattle.std.specs.List.{AllByRecursion, flat_map}
use Rattle.std.specs.Ordering.{eq_by_cmp, is_eq}
use Rattle.std.specs.Cmp.{tied_itself}
use Rattle.std.specs.FinMap as map
use Rattle.std.specs.Int.{w32, w128, to_be_bytes}
use Rattle.std.specs.Str.Parse.{IsNumeral, digits_value}
use Rattle.std.proofs.lemmas.Bool.{or_left, or_right}
use Rattle.std.proofs.lemmas.Bool.Decides.{nat_tests}
use Rattle.std.proofs.lemmas.Fmt.{decimal_is_IsNumeral, length-decimal-le}
use Rattle.std.proofs.lemmas.List.Elements.{All-weaker}
use Rattle.std.proofs.NetLemmas.Alphabet.{IsDigitOrDot, IsHexOrColon, All-ipv4_text, All-hex_groups_text}
use Rattle.net_names.specs.declared.addresses.Family.{Family}
use Rattle.net_names.specs.declared.addresses.Family.TheVariants.{V4, V6}
use Rattle.net_names.specs.Addresses.{width}
use Rattle.net_names.specs.Lines.{kept_from, said_on}
use Rattle.net_names.specs.Links.{pair_cmp}
use Rattle.net_names.specs.Numbers.{occurs, IsDistinct}
use Rattle.net_names.specs.Orders.{prefix_total}
use Rattle.net_names.specs.Prefixes.{PrefixValue, IsPrefix, prefix_cmp}
use Rattle.net_names.specs.Texts.{addr_text, numeral, prefix_text}
use Rattle.net_names.specs.Steps.{◌>>=◌ as ◌>>=ᵒ◌}
use Rattle.net_names.specs.Trials.{◌>>=◌}
use Rattle.net_names.proofs.Again.{prefix_again}
use Rattle.net_names.proofs.Octets.{bytes_small, groups_small}
use Rattle.net_names.proofs.Pairs.{exact_pair, pairs_total}
use Rattle.net_names.proofs.TextLaws.{cut_again, numeral_again, list_digits}
use Rattle.scenario_text.specs.Forms.{for_of, pair}
use Rattle.stability_laws.specs.EntryTexts.{entry_row}
use Rattle.stability_laws.specs.declared.entry.Entry.{Entry}
use Rattle.table_check.specs.declared.tables.Tables.{Tables}
use Rattle.table_check.specs.declared.reading.TablesError.{TablesError}
use Rattle.table_check.specs.declared.reading.TablesError.TheVariants.{Unreadable, Twice}
use Rattle.table_check.specs.Forms.{row_of}
use Rattle.table_check.specs.Reading.{tables_by, with_line, with_row}
use Rattle.table_check.specs.Printed.{for_text, sections_text, IsRow, IsSection, with_rounds, PrintedTablesAreRead}
use Rattle.table_check.proofs.Freely.{lacks, lacks_joined, lacks_all, decimal_lacks, all_lacks}
use Rattle.table_check.proofs.Lines.{none_yet}
use Rattle.table_check.proofs.ReadRows.{end_byte, line_read, no_digit, no_for, row_again, row_line, row_text}
use Rattle.table_check.proofs.RowMaps.{Row, same_pair}

-- ---- the line with which a section begins

other_than_dotted : (lf : Bool) (x : ℕ) → IsDigitOrDot x → (x == end_byte lf) ≡ false
other_than_dotted true x h = grind (arith, nat_tests)
other_than_dotted false x h = grind (arith, nat_tests)

other_than_hex : (lf : Bool) (x : ℕ) → IsHexOrColon x → (x == end_byte lf) ≡ false
other_than_hex true x h = grind (arith, nat_tests)
other_than_hex false x h = grind (arith, nat_tests)

addr_lacks : (lf : Bool) (family : Family) (bits : ℕ) → lacks (end_byte lf) (addr_text (record { family = family; bits = bits })) ≡ true
unfolding addr_text
addr_lacks lf V4 bits = all_lacks (end_byte lf) _ (All-weaker IsDigitOrDot (λ x. (x == end_byte lf) ≡ false) (other_than_dotted lf) _ (All-ipv4_text (to_be_bytes w32 bits) (bytes_small 4 bits)))
addr_lacks lf V6 bits = all_lacks (end_byte lf) _ (All-weaker IsHexOrColon (λ x. (x == end_byte lf) ≡ false) (other_than_hex lf) _ (All-hex_groups_text _ (groups_small (to_be_bytes w128 bits) (bytes_small 16 bits))))

no_for_word : (lf : Bool) (rest : List ℕ) → lacks (end_byte lf) rest ≡ true → lacks (end_byte lf) (codes "for " ++ rest) ≡ true
no_for_word true rest h = h
no_for_word false rest h = h

no_gap : (lf : Bool) (rest : List ℕ) → lacks (end_byte lf) rest ≡ true → lacks (end_byte lf) (32 ∷ rest) ≡ true
no_gap true rest h = h
no_gap false rest h = h

no_slash : (lf : Bool) (rest : List ℕ) → lacks (end_byte lf) rest ≡ true → lacks (end_byte lf) (47 ∷ rest) ≡ true
no_slash true rest h = h
no_slash false rest h = h

for_lacks : (round : ℕ) (prefix : PrefixValue) → round < 2 ^ 32 → prefix.len < 2 ^ 32 → (lf : Bool) → lacks (end_byte lf) (for_text round prefix) ≡ true
for_lacks round prefix small short lf =
    no_for_word lf _ (lacks_joined (end_byte lf) (decimal round) (32 ∷ prefix_text prefix) (decimal_lacks (end_byte lf) round (no_digit lf) small)
    (no_gap lf _ (lacks_joined (end_byte lf) (addr_text (record { family = prefix.family; bits = prefix.addr })) (47 ∷ decimal prefix.len) (addr_lacks lf prefix.family prefix.addr)
    (no_slash lf _ (decimal_lacks (end_byte lf) prefix.len (no_digit lf) short)))))

round_again : (round : ℕ) → round < 10 ^ 9 → numeral 10 9 (decimal round) ≡ Some round
round_again round small =
    let m : IsNumeral 10 (decimal round) × (digits_value 10 (decimal round) ≡ round) = decimal_is_IsNumeral round (omega (arith, small)) in
    let l : length (decimal round) ≤ 9 = length-decimal-le 9 round (omega arith) small (omega (arith, small)) in
    numeral_again 10 9 (decimal round) round m.0.0 l (list_digits 10 (decimal round) m.0.1) m.1

for_again : (round : ℕ) (prefix : PrefixValue) → round < 10 ^ 9 → IsPrefix prefix.family prefix.addr prefix.len → for_of (for_text round prefix) ≡ Some (round, prefix)
unfolding for_of pair
for_again round prefix small is =
    rw (cut_again 32 (decimal round) (prefix_text prefix) (lacks_all 32 (decimal round) (decimal_lacks 32 round refl (omega (arith, small)))), round_again round small, prefix_again prefix is) refl

narrow : (family : Family) → width family < 1000
narrow V4 = lit< tt
narrow V6 = lit< tt

for_line : (round : ℕ) (prefix : PrefixValue) → round < 10 ^ 9 → IsPrefix prefix.family prefix.addr prefix.len → (rest : List ℕ) (number : ℕ) → kept_from number (for_text round prefix ++ (10 ∷ rest)) ≡ (number, for_text round prefix) ∷ kept_from (number + 1) rest
for_line round prefix small is = line_read (for_text round prefix) (for_lacks round prefix (omega (arith, small)) (let n = narrow prefix.family in omega (arith, is.short, n))) refl

-- ---- rows of maps

-- the rows of a section, each with its round
abbrev in_round : ℕ → List (ℕ × Option Entry) → List Row
in_round round rows = each (λ row. ((round, row.0), row.1)) rows

-- no row of the round of these ASes stands among the entries
abbrev AreNew : ℕ → List (ℕ × Option Entry) → List Row → Type 0
AreNew round rows es = (a : ℕ) → occurs a (each (λ (row : ℕ × Option Entry). row.0) rows) ≡ true → map.find pair_cmp (round, a) es ≡ None

-- one row more, of an AS that has none yet
with_new : (es : List Row) (k : ℕ × ℕ) (held : Option Entry) → map.find pair_cmp k es ≡ None → map.insert (map.from_entries {R = pair_cmp} es) k held ≡ map.from_entries (es ++ (k, held) ∷ [])
with_new es k held new = sym (map.from_entries_push pairs_total exact_pair es k held new)

find_push : (es : List Row) (k q : ℕ × ℕ) (held : Option Entry) → map.find pair_cmp k es ≡ None → (q ≡ k → ⊥) → map.find pair_cmp q es ≡ None → map.find pair_cmp q (es ++ (k, held) ∷ []) ≡ None
find_push es k q held new other none = map.Entries.find-append pair_cmp pairs_total es k held q new ∙ by (eq_by_cmp pair_cmp q k) refl
  where
    by : (b : Bool) → eq_by_cmp pair_cmp q k ≡ b → cond b (Some held) (map.find pair_cmp q es) ≡ None
    by true h = absurd (other (same_pair q k h))
    by false h = none

still_new : (round : ℕ) (row : ℕ × Option Entry) (rows : List (ℕ × Option Entry)) (es : List Row) → IsDistinct (each (λ (r : ℕ × Option Entry). r.0) (row ∷ rows)) → AreNew round (row ∷ rows) es → AreNew round rows (es ++ ((round, row.0), row.1) ∷ [])
still_new round row rows es apart new a o =
    let asns = each (λ (r : ℕ × Option Entry). r.0) rows in
    let differs : (round, a) ≡ (round, row.0) → ⊥ = λ same. true≢false (sym o ∙ ap (λ (y : ℕ × ℕ). occurs y.1 asns) same ∙ apart.0) in
    find_push es (round, row.0) (round, a) row.1 (new row.0 (or_left (row.0 == row.0) (occurs row.0 asns) (eq-eqb row.0 row.0 refl))) differs (new a (or_right (row.0 == a) (occurs a asns) o))

-- ---- whole sections

-- the table of these sections and rows
abbrev at : PrefixValue → List ℕ → List Row → Tables
at prefix starts es = record { prefix = prefix; starts = starts; rows = map.from_entries es }

-- what a line makes of what is read so far, by what it is read as
abbrev line_by : Tables → ℕ → Option (ℕ × PrefixValue) → Option (ℕ × Option Entry) → Result Tables TablesError
line_by t number start row = unwrap_or
    (option_map (λ _. Ok (record t { starts = t.starts ++ number ∷ [] })) (start >>=ᵒ λ x. if (x.0 == length t.starts + 1) && eq_by_cmp prefix_cmp t.prefix x.1 then Some x else None))
    (ok_or row (Unreadable number) >>= with_row t number)

row_at : (prefix : PrefixValue) (starts : List ℕ) (es : List Row) (row : ℕ × Option Entry) (number : ℕ) → IsRow row → map.find pair_cmp (length starts, row.0) es ≡ None
    → with_line (at prefix starts es) (number, row_text row) ≡ Ok (at prefix starts (es ++ ((length starts, row.0), row.1) ∷ []))
row_at prefix starts es row number r new =
    let t = at prefix starts es in
    let key : ℕ × ℕ = (length starts, row.0) in
    let F : Bool → Result Tables TablesError = λ b. if b then Err (Twice number) else Ok (record t { rows = map.insert t.rows key row.1 }) in
    (λ i. line_by t number (no_for row r i) (row_again row r i))
    ∙ ap F (ap is_some (map.get-from_entries pairs_total es key ∙ new))
    ∙ ap (λ m. Ok (record t { rows = m })) (with_new es key row.1 new)

-- the text of a row, and the rest
row_rest : (row : ℕ × Option Entry) (rows : List (ℕ × Option Entry)) (rest : List ℕ) → flat_map (λ row. entry_row row.0 row.1) (row ∷ rows) ++ rest ≡ row_text row ++ (10 ∷ (flat_map (λ row. entry_row row.0 row.1) rows ++ rest))
row_rest row rows rest = append_assoc (entry_row row.0 row.1) (flat_map (λ row. entry_row row.0 row.1) rows) rest ∙ append_assoc (row_text row) (10 ∷ []) (flat_map (λ row. entry_row row.0 row.1) rows ++ rest)

rows_read : (prefix : PrefixValue) (starts : List ℕ) (es : List Row) (rows : List (ℕ × Option Entry)) → AllByRecursion IsRow rows → IsDistinct (each (λ row. row.0) rows) → AreNew (length starts) rows es → (rest : List ℕ) (number : ℕ)
    → (next : ℕ) × (said_on with_line (at prefix starts es) (kept_from number (flat_map (λ row. entry_row row.0 row.1) rows ++ rest)) ≡ said_on with_line (at prefix starts (es ++ in_round (length starts) rows)) (kept_from next rest))
unfolding said_on
rows_read prefix starts es [] are apart new rest number = (number, ap (λ xs. said_on with_line (at prefix starts xs) (kept_from number rest)) (sym (append-nil es)))
rows_read prefix starts es (row ∷ rows) are apart new rest number =
    let more = flat_map (λ row. entry_row row.0 row.1) rows ++ rest in
    let entry : Row = ((length starts, row.0), row.1) in
    let here = new row.0 (or_left (row.0 == row.0) (occurs row.0 (each (λ (r : ℕ × Option Entry). r.0) rows)) (eq-eqb row.0 row.0 refl)) in
    let (next, goes) = rows_read prefix starts (es ++ entry ∷ []) rows are.1 apart.1 (still_new (length starts) row rows es apart new) rest (number + 1) in (
      next,
      ap (λ text. said_on with_line (at prefix starts es) (kept_from number text)) (row_rest row rows rest)
          ∙ ap (said_on with_line (at prefix starts es)) (row_line row are.0 more number)
          ∙ ap (λ (r : Result Tables TablesError). r >>= λ m. said_on with_line m (kept_from (number + 1) more)) (row_at prefix starts es row number are.0 here)
          ∙ goes
          ∙ ap (λ xs. said_on with_line (at prefix starts xs) (kept_from next rest)) (append_assoc es (entry ∷ []) (in_round (length starts) rows)),
    )

-- the rows of one round say nothing of another
other_round : (round : ℕ) (rows : List (ℕ × Option Entry)) (es : List Row) (r a : ℕ) → round ≢ r → IsDistinct (each (λ row. row.0) rows) → AreNew round rows es → map.find pair_cmp (r, a) es ≡ None → map.find pair_cmp (r, a) (es ++ in_round round rows) ≡ None
other_round round [] es r a other apart new none = ap (map.find pair_cmp (r, a)) (append-nil es) ∙ none
other_round round (row ∷ rows) es r a other apart new none =
    let asns = each (λ (r : ℕ × Option Entry). r.0) rows in
    let here = new row.0 (or_left (row.0 == row.0) (occurs row.0 asns) (eq-eqb row.0 row.0 refl)) in
    let one = find_push es (round, row.0) (r, a) row.1 here (λ same. other (sym (ap (λ (q : ℕ × ℕ). q.0) same))) none in
    ap (map.find pair_cmp (r, a)) (sym (append_assoc es (((round, row.0), row.1) ∷ []) (in_round round rows)))
    ∙ other_round round rows (es ++ ((round, row.0), row.1) ∷ []) r a other apart.1 (still_new round row rows es apart new) one

module _ (prefix : PrefixValue) (is : IsPrefix prefix.family prefix.addr prefix.len) where
  next_at : (starts : List ℕ) (es : List Row) (number round : ℕ) → round ≡ length starts + 1 → round < 10 ^ 9 → with_line (at prefix starts es) (number, for_text round prefix) ≡ Ok (at prefix (starts ++ number ∷ []) es)
  next_at starts es number round e small =
      let t = at prefix starts es in
      let a : (round == length starts + 1) ≡ true = eq-eqb round (length starts + 1) e in
      let b : eq_by_cmp prefix_cmp prefix prefix ≡ true = ap is_eq (tied_itself prefix_total prefix) in
      let F : Bool → Result Tables TablesError = λ c. unwrap_or (option_map {T = ℕ × PrefixValue} (λ _. Ok (at prefix (starts ++ number ∷ []) es)) (if c then Some (round, prefix) else None)) (ok_or (row_of (for_text round prefix)) (Unreadable number) >>= with_row t number) in
      ap (λ (f : Option (ℕ × PrefixValue)). line_by t number f (row_of (for_text round prefix))) (for_again round prefix small is) ∙ ap F (λ i. a i && b i)

  -- all entries so far are of earlier rounds
  abbrev AreEarlier : ℕ → List Row → Type 0
  AreEarlier round es = (r a : ℕ) → round ≤ r → map.find pair_cmp (r, a) es ≡ None

  sections_read : (tables : List (List (ℕ × Option Entry))) (starts : List ℕ) (es : List Row) (number round : ℕ) → round ≡ length starts + 1 → AreEarlier round es → AllByRecursion IsSection tables → round + length tables ≤ 10 ^ 9
      → (more : List ℕ) × (length more ≡ length starts + length tables) × (said_on with_line (at prefix starts es) (kept_from number (sections_text round prefix tables)) ≡ Ok (at prefix more (es ++ with_rounds round tables)))
  unfolding said_on
  sections_read [] starts es number round e earlier are few = (starts, omega arith, ap (λ xs. Ok (at prefix starts xs)) (sym (append-nil es)))
  sections_read (rows ∷ tables) starts es number round e earlier are few =
      let now = starts ++ number ∷ [] in
      let n : length now ≡ round = length-append starts (number ∷ []) ∙ sym e in
      let next_round : suc round ≡ length now + 1 = omega (arith, n) in
      let text = flat_map (λ (row : ℕ × Option Entry). entry_row row.0 row.1) rows in
      let rest = sections_text (suc round) prefix tables in
      let small : round < 10 ^ 9 = omega (arith, few) in
      let new : AreNew (length now) rows es = λ a o. earlier (length now) a (omega (arith, n)) in
      let (next, goes) = rows_read prefix now es rows are.0.0 are.0.1 new rest (number + 1) in
      let es' = es ++ in_round (length now) rows in
      let later : AreEarlier (suc round) es' = λ r a less. other_round (length now) rows es r a (λ same. absurd (omega (arith, same, n, less))) are.0.1 new (earlier r a (omega (arith, less))) in
      let (more, count, read) = sections_read tables now es' next (suc round) next_round later are.1 (omega (arith, few)) in (
        more,
        omega (arith, count, n, e),
        ap (said_on with_line (at prefix starts es)) (for_line round prefix small is (text ++ rest) number)
            ∙ ap (λ (r : Result Tables TablesError). r >>= λ m. said_on with_line m (kept_from (number + 1) (text ++ rest))) (next_at starts es number round e small)
            ∙ goes ∙ read
            ∙ ap (λ xs. Ok (at prefix more xs)) (append_assoc es (in_round (length now) rows) (with_rounds (suc round) tables) ∙ ap (λ k. es ++ (in_round k rows ++ with_rounds (suc round) tables)) n),
      )

-- a file that begins with a `for` line says what its lines say one after the other
begins_so : (prefix : PrefixValue) (round number : ℕ) (text : List ℕ) (ls rest : List (ℕ × List ℕ)) (whole : Result Tables TablesError) → ls ≡ (number, text) ∷ rest → for_of text ≡ Some (round, prefix) → said_on with_line (none_yet prefix) ls ≡ whole → tables_by ls ≡ whole
unfolding tables_by
begins_so prefix round number text ls rest whole is f read =
    let at_once : said_on with_line (none_yet prefix) ((number, text) ∷ rest) ≡ whole = sym (ap (said_on with_line (none_yet prefix)) is) ∙ read in
    rw (is, f) at_once

-- a table that is printed is read again
pub tables_again : PrintedTablesAreRead
tables_again prefix rows more is are few =
    let text = flat_map (λ (row : ℕ × Option Entry). entry_row row.0 row.1) rows ++ sections_text 2 prefix more in
    let (starts, count, read) = sections_read prefix is (rows ∷ more) [] [] 1 1 refl (λ r a less. refl) are (omega (arith, few)) in (
      starts,
      omega (arith, count),
      begins_so prefix 1 1 (for_text 1 prefix) (kept_from 1 (sections_text 1 prefix (rows ∷ more))) (kept_from (1 + 1) text) _ (for_line 1 prefix (lit< tt) is text 1) (for_again 1 prefix (lit< tt) is) read,
    )
