-- Printed rows are read again.
use Rattle.std.proofs.Common.{◌≡◌, ℕ, ◌+◌, ◌-◌, ◌<◌, ◌≤◌, Bool, true, false, not, ◌&&◌, List, [], ◌∷◌, ◌++◌, length, get_or, take, drop, map as each, Option, Some, None, option_map, IfSome, append-nil, true≢false, refl, ap, sym, ◌∙◌, arith, eq-eqb}
use Rattle.std.specs.Prelude.{bytes_eq, codes, decimal, ◌==◌, if◌then◌else◌}
use Rattle.std.specs.Bool.{then_some}
use Rattle.std.specs.Char.{is_digit}
use Rattle.std.specs.Cmp.Lexicographic.{pointwise}
use Rattle.std.specs.List.{AllByRecursion, list_all}
use Rattle.std.specs.Option.{is_some, option_map_or, option_zip, some_prefix}
use Rattle.std.specs.Str.Lines.{strip_carriage_return}
use Rattle.std.proofs.lemmas.Bool.{and_parts, ne_eqb, not-true}
use Rattle.std.proofs.lemmas.List.Splits.{slice_split_none, slice_split_at}
use Rattle.net_names.specs.declared.routes.Class.{Class}
use Rattle.net_names.specs.declared.routes.Class.TheVariants.{Origin, Customer, Peer, Provider}
use Rattle.net_names.specs.Lines.{kept_from}
use Rattle.net_names.specs.Texts.{after, asn_of, class_word, cut_at, fields, is_skipped, numbers_text}
use Rattle.net_names.proofs.Again.{asn_again, class_again}
use Rattle.net_names.proofs.KeptLines.{line_cut}
use Rattle.net_names.proofs.TextLaws.{cut_again}
use Rattle.scenario_text.specs.Forms.{for_of, form, pair}
use Rattle.stability_laws.specs.EntryTexts.{entry_text}
use Rattle.stability_laws.specs.declared.entry.Entry.{Entry}
use Rattle.table_check.specs.Forms.{numbers_of, row_of, way_of}
use Rattle.table_check.specs.Printed.{IsAsn, IsPrintable, IsRow}
use Rattle.table_check.proofs.Freely.{lacks, lacks_joined, lacks_all, decimal_digits, decimal_some, decimal_lacks, uncut, digit_not}

number_fields : (n : ℕ) (ns : List ℕ) → AllByRecursion IsAsn (n ∷ ns) → fields 32 (numbers_text (n ∷ ns)) ≡ each decimal (n ∷ ns)
number_fields n [] a = slice_split_none (λ b. b == 32) (decimal n) (lacks_all 32 (decimal n) (decimal_lacks 32 n refl a.0.1))
number_fields n (m ∷ ms) a =
    slice_split_at (λ b. b == 32) (decimal n) 32 (numbers_text (m ∷ ms)) (lacks_all 32 (decimal n) (decimal_lacks 32 n refl a.0.1)) (eq-eqb 32 32 refl)
    ∙ ap (λ (xs : List (List ℕ)). decimal n ∷ xs) (number_fields m ms a.1)

each_again : (ns : List ℕ) → AllByRecursion IsAsn ns → each asn_of (each decimal ns) ≡ each (λ n. Some n) ns
each_again [] a = refl
each_again (n ∷ ns) a = λ i. asn_again n a.0.0 a.0.1 i ∷ each_again ns a.1 i

all_some : (ns : List ℕ) → then_some (list_all is_some (each {B = Option ℕ} (λ n. Some n) ns)) (some_prefix (each (λ n. Some n) ns)) ≡ Some ns
all_some ns = λ i. then_some (all ns i) (same ns i)
  where
    all : (ns : List ℕ) → list_all is_some (each {B = Option ℕ} (λ n. Some n) ns) ≡ true
    all [] = refl
    all (n ∷ ns) = all ns

    same : (ns : List ℕ) → some_prefix (each {B = Option ℕ} (λ n. Some n) ns) ≡ ns
    same [] = refl
    same (n ∷ ns) = ap (λ xs. n ∷ xs) (same ns)

numbers_again : (ns : List ℕ) → 1 ≤ length ns → AllByRecursion IsAsn ns → numbers_of (numbers_text ns) ≡ Some ns
numbers_again [] h a = absurd (omega arith)
numbers_again (n ∷ ns) h a =
    let F : List (Option ℕ) → Option (List ℕ) = λ os. then_some (list_all is_some os) (some_prefix os) in
    ap (λ (xs : List (List ℕ)). F (each asn_of xs)) (number_fields n ns a) ∙ ap F (each_again (n ∷ ns) a) ∙ all_some (n ∷ ns)

otc_again : (n : ℕ) → IsAsn n → form "otc " asn_of (λ m. Some m) (codes "otc " ++ decimal n) ≡ Some (Some n)
otc_again n a = ap (option_map (λ m. Some m)) (asn_again n a.0 a.1)

numbers_lack : (byte : ℕ) → is_digit byte 10 ≡ false → (32 == byte) ≡ false → (ns : List ℕ) → AllByRecursion IsAsn ns → lacks byte (numbers_text ns) ≡ true
numbers_lack byte other space [] a = refl
numbers_lack byte other space (n ∷ []) a = decimal_lacks byte n other a.0.1
numbers_lack byte other space (n ∷ m ∷ ms) a =
    lacks_joined byte (decimal n) (32 ∷ numbers_text (m ∷ ms)) (decimal_lacks byte n other a.0.1) (λ i. not (space i) && numbers_lack byte other space (m ∷ ms) a.1 i)

word_lacks : (c : Class) → lacks 124 (class_word c) ≡ true
word_lacks Origin = refl
word_lacks Customer = refl
word_lacks Peer = refl
word_lacks Provider = refl

-- what stands behind the class
abbrev way_text : List ℕ → Option ℕ → List ℕ
way_text path otc = numbers_text path ++ option_map_or (λ n. codes "|otc " ++ decimal n) otc []

-- what is read behind the class, where it is cut so
abbrev way_by : List ℕ → Option (List ℕ × List ℕ) → Option (List ℕ × Option ℕ)
way_by text parts = elim parts [ None ↦ option_map (λ path. (path, None)) (numbers_of text) | Some p ↦ option_zip (numbers_of p.0) (form "otc " asn_of (λ m. Some m) p.1) ]

way_again : (path : List ℕ) (otc : Option ℕ) → 1 ≤ length path → AllByRecursion IsAsn path → IfSome otc IsAsn → way_of (way_text path otc) ≡ Some (path, otc)
way_again path None some are h =
    ap (λ (t : List ℕ). way_by t (cut_at 124 t)) (append-nil (numbers_text path))
    ∙ ap (way_by (numbers_text path)) (uncut 124 (numbers_text path) (numbers_lack 124 refl refl path are))
    ∙ ap (option_map (λ path. (path, None))) (numbers_again path some are)
way_again path (Some n) some are h =
    ap (way_by (way_text path (Some n))) (cut_again 124 (numbers_text path) (codes "otc " ++ decimal n) (lacks_all 124 (numbers_text path) (numbers_lack 124 refl refl path are)))
    ∙ (λ i. option_zip (numbers_again path some are i) (otc_again n h i))

not_none : (c : Class) (rest : List ℕ) → bytes_eq (class_word c ++ rest) (codes "none|") ≡ false
not_none Origin rest = refl
not_none Customer rest = refl
not_none Peer rest = refl
not_none Provider rest = refl

-- a row without its line feed: the AS, `|` and its entry
abbrev pub row_text : ℕ × Option Entry → List ℕ
row_text row = decimal row.0 ++ (124 ∷ entry_text row.1)

-- a printed row is read as the row
pub row_again : (row : ℕ × Option Entry) → IsRow row → row_of (row_text row) ≡ Some row
unfolding row_of pair
row_again (a, None) r = rw (cut_again 124 (decimal a) (codes "none|") (lacks_all 124 (decimal a) (decimal_lacks 124 a refl r.asn.1)), asn_again a r.asn.0 r.asn.1) refl
row_again (a, Some e) r = rw (
  cut_again 124 (decimal a) (entry_text (Some e)) (lacks_all 124 (decimal a) (decimal_lacks 124 a refl r.asn.1)),
  asn_again a r.asn.0 r.asn.1,
  not_none e.class (124 ∷ way_text e.path e.otc),
  cut_again 124 (class_word e.class) (way_text e.path e.otc) (lacks_all 124 (class_word e.class) (word_lacks e.class)),
  class_again e.class,
  way_again e.path e.otc r.held.some r.held.path r.held.otc,
) refl

-- ---- lines

digit_after : (byte c : ℕ) → is_digit c 10 ≡ true → is_digit byte 10 ≡ false → (byte == c) ≡ false
digit_after byte c d n = ne_eqb byte c (λ e. let t : is_digit byte 10 ≡ true = ap (λ x. is_digit x 10) e ∙ d in true≢false (sym t ∙ n))

begins : (text rest : List ℕ) → 0 < length text → list_all (λ c. is_digit c 10) text ≡ true → (after (codes "for ") (text ++ rest) ≡ None) × (is_skipped (text ++ rest) ≡ false)
begins [] rest some digits = absurd (omega arith)
begins (c ∷ cs) rest some digits =
    let d = (and_parts (is_digit c 10) (list_all (λ x. is_digit x 10) cs) digits).0 in
    let f : (102 == c) ≡ false = digit_after 102 c d refl in
    let s : (c == 35) ≡ false = not-true (c == 35) (digit_not c 35 d refl) in
    ((λ i. then_some (f i && pointwise (λ x y. x == y) (codes "or ") (take 3 (cs ++ rest))) (drop 3 (cs ++ rest))), s)

-- a row is no `for` line
pub no_for : (row : ℕ × Option Entry) → IsRow row → for_of (row_text row) ≡ None
unfolding for_of
no_for row r = rw (begins (decimal row.0) (124 ∷ entry_text row.1) (decimal_some row.0 r.asn.1) (decimal_digits row.0 r.asn.1)).0 refl

not_skipped : (row : ℕ × Option Entry) → IsRow row → is_skipped (row_text row) ≡ false
not_skipped row r = (begins (decimal row.0) (124 ∷ entry_text row.1) (decimal_some row.0 r.asn.1) (decimal_digits row.0 r.asn.1)).1

end_lacks : (lf : Bool) → (c : Class) → lacks (if lf then 10 else 13) (class_word c) ≡ true
end_lacks true Origin = refl
end_lacks true Customer = refl
end_lacks true Peer = refl
end_lacks true Provider = refl
end_lacks false Origin = refl
end_lacks false Customer = refl
end_lacks false Peer = refl
end_lacks false Provider = refl

-- of the two bytes that end lines, which one
abbrev pub end_byte : Bool → ℕ
end_byte lf = if lf then 10 else 13

pub no_digit : (lf : Bool) → is_digit (end_byte lf) 10 ≡ false
no_digit true = refl
no_digit false = refl

no_space : (lf : Bool) → (32 == end_byte lf) ≡ false
no_space true = refl
no_space false = refl

no_bar : (lf : Bool) (rest : List ℕ) → lacks (end_byte lf) rest ≡ true → lacks (end_byte lf) (124 ∷ rest) ≡ true
no_bar true rest h = h
no_bar false rest h = h

no_word : (lf : Bool) → lacks (end_byte lf) (codes "none|") ≡ true
no_word true = refl
no_word false = refl

otc_lacks : (lf : Bool) (otc : Option ℕ) → IfSome otc IsAsn → lacks (end_byte lf) (option_map_or (λ n. codes "|otc " ++ decimal n) otc []) ≡ true
otc_lacks lf None h = refl
otc_lacks true (Some n) h = decimal_lacks 10 n refl h.1
otc_lacks false (Some n) h = decimal_lacks 13 n refl h.1

held_lacks : (lf : Bool) (o : Option Entry) → IfSome o IsPrintable → lacks (end_byte lf) (entry_text o) ≡ true
held_lacks lf None h = no_word lf
held_lacks lf (Some e) h =
    lacks_joined (end_byte lf) (class_word e.class) (124 ∷ way_text e.path e.otc) (end_lacks lf e.class)
    (no_bar lf (way_text e.path e.otc) (lacks_joined (end_byte lf) (numbers_text e.path) _ (numbers_lack (end_byte lf) (no_digit lf) (no_space lf) e.path h.path) (otc_lacks lf e.otc h.otc)))

row_lacks : (lf : Bool) (row : ℕ × Option Entry) → IsRow row → lacks (end_byte lf) (row_text row) ≡ true
row_lacks lf row r = lacks_joined (end_byte lf) (decimal row.0) (124 ∷ entry_text row.1) (decimal_lacks (end_byte lf) row.0 (no_digit lf) r.asn.1) (no_bar lf (entry_text row.1) (held_lacks lf row.1 r.held))

-- a text without a carriage return loses none at its end
kept_whole : (text : List ℕ) → lacks 13 text ≡ true → strip_carriage_return text ≡ text
kept_whole [] h = refl
kept_whole (c ∷ cs) h =
    let last : (get_or (c ∷ cs) (length (c ∷ cs) - 1) 0 == 13) ≡ false = lacks_all 13 (c ∷ cs) h (length (c ∷ cs) - 1) 0 (omega arith) in
    rw last refl

-- what stands before a line feed is a line, where it has no line feed and no carriage return and is not skipped
pub line_read : (text : List ℕ) → ((lf : Bool) → lacks (end_byte lf) text ≡ true) → is_skipped text ≡ false → (rest : List ℕ) (number : ℕ) → kept_from number (text ++ (10 ∷ rest)) ≡ (number, text) ∷ kept_from (number + 1) rest
line_read text free counts rest number =
    line_cut (text ++ (10 ∷ rest)) text rest (sym (cut_again 10 text rest (lacks_all 10 text (free true)))) number
    ∙ (λ i. if not (is_skipped (kept_whole text (free false) i)) then (number, kept_whole text (free false) i) ∷ kept_from (number + 1) rest else kept_from (number + 1) rest)
    ∙ ap (λ b. if not b then (number, text) ∷ kept_from (number + 1) rest else kept_from (number + 1) rest) counts

-- the first line of rows is the first row
pub row_line : (row : ℕ × Option Entry) → IsRow row → (rest : List ℕ) (number : ℕ) → kept_from number (row_text row ++ (10 ∷ rest)) ≡ (number, row_text row) ∷ kept_from (number + 1) rest
row_line row r = line_read (row_text row) (λ lf. row_lacks lf row r) (not_skipped row r)
