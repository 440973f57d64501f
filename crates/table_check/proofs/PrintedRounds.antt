-- The printed tables of the stable routings are accepted.
use Rattle.std.proofs.Common.{◌≡◌, inl, inr, ℕ, zero, suc, ◌+◌, ◌≤◌, ◌<◌, Bool, true, false, cond, ◌||◌, ◌==◌, ◌&&◌, List, [], ◌∷◌, ◌++◌, length, map as each, Option, Some, None, IfSome, refl, ap, sym, ◌∙◌, arith, eq-eqb}
use Rattle.std.specs.Prelude.{option_and_then}
use Rattle.std.specs.List.{AllByRecursion, flat_map}
use Rattle.std.specs.Option.{option_or}
use Rattle.std.specs.Ordering.{eq_by_cmp}
use Rattle.std.specs.Cmp.{nat_eq_equiv, unsigned_tied}
use Rattle.std.specs.FinMap as map
use Rattle.std.proofs.lemmas.Bool.{cases_eq, or_left, or_right, eqb-true, ne_eqb}
use Rattle.net_names.specs.Lines.{kept_from}
use Rattle.net_names.specs.Links.{pair_cmp}
use Rattle.net_names.specs.Numbers.{occurs, IsDistinct}
use Rattle.net_names.specs.Prefixes.{PrefixValue}
use Rattle.net_names.proofs.Pairs.{pairs_total}
use Rattle.policy_laws.specs.Policy.{Policy}
use Rattle.as_graph.specs.Topology.{Topology}
use Rattle.stability_laws.specs.EntryTexts.{entry_row}
use Rattle.stability_laws.specs.declared.entry.Entry.{Entry}
use Rattle.stability_laws.specs.Laws.{OneStableRouting}
use Rattle.stability_laws.specs.Rounds.{Family}
use Rattle.table_check.specs.declared.tables.Tables.{Tables}
use Rattle.table_check.specs.Printed.{for_text, sections_text, with_rounds, IsPrintable, IsRow, IsSection}
use Rattle.table_check.specs.Laws.{IsTableOf, PrintedRoundsAreAccepted, rounds_text}
use Rattle.table_check.specs.Reading.{tables_by}
use Rattle.table_check.proofs.AcceptedRounds.{are_accepted}
use Rattle.table_check.proofs.Listed.{asns_of, listed_once, listed_are}
use Rattle.table_check.proofs.ReadSections.{tables_again}
use Rattle.table_check.proofs.RowMaps.{Row, at_pair}

-- the rows of these ASes by what each holds
abbrev rows_of : List ℕ → (ℕ → Option Entry) → List (ℕ × Option Entry)
rows_of asns held = each (λ a. (a, held a)) asns

-- the rows of these ASes in so many rounds from this one on
abbrev rounds_from : List ℕ → (ℕ → ℕ → Option Entry) → ℕ → ℕ → List (List (ℕ × Option Entry))
rounds_from asns held round zero = []
rounds_from asns held round (suc count) = rows_of asns (held round) ∷ rounds_from asns held (suc round) count

rows_as_table : (held : ℕ → Option Entry) (xs : List ℕ) → flat_map (λ a. entry_row a (held a)) xs ≡ flat_map (λ row. entry_row row.0 row.1) (rows_of xs held)
rows_as_table held [] = refl
rows_as_table held (x ∷ xs) = ap (λ t. entry_row x (held x) ++ t) (rows_as_table held xs)

-- the text of rounds is that of their rows
text_is : (w : Topology) (g : Family) (prefix : PrefixValue) (round count : ℕ) → rounds_text w g prefix round count ≡ sections_text round prefix (rounds_from (asns_of w) (λ r. g r prefix) round count)
text_is w g prefix round zero = refl
text_is w g prefix round (suc count) = λ i. for_text round prefix ++ (10 ∷ (rows_as_table (g round prefix) (asns_of w) i ++ text_is w g prefix (suc round) count i))

asns_again : (held : ℕ → Option Entry) (xs : List ℕ) → each (λ (row : ℕ × Option Entry). row.0) (rows_of xs held) ≡ xs
asns_again held [] = refl
asns_again held (x ∷ xs) = ap (λ ys. x ∷ ys) (asns_again held xs)

all_rows : (held : ℕ → Option Entry) (xs : List ℕ) → ((a : ℕ) → occurs a xs ≡ true → IsRow (a, held a)) → AllByRecursion IsRow (rows_of xs held)
all_rows held [] fine = tt
all_rows held (x ∷ xs) fine = (fine x (or_left (x == x) (occurs x xs) (eq-eqb x x refl)), all_rows held xs (λ a o. fine a (or_right (x == a) (occurs a xs) o)))

all_sections : (xs : List ℕ) (held : ℕ → ℕ → Option Entry) (limit : ℕ) → IsDistinct xs → ((r a : ℕ) → 1 ≤ r → r ≤ limit → occurs a xs ≡ true → IsRow (a, held r a)) → (round count : ℕ) → 1 ≤ round → round + count ≤ limit + 1 → AllByRecursion IsSection (rounds_from xs held round count)
all_sections xs held limit apart fine round zero low high = tt
all_sections xs held limit apart fine round (suc count) low high = (
  (all_rows (held round) xs (λ a. fine round a low (omega (arith, high))), coe 1 0 (i. IsDistinct (asns_again (held round) xs i)) apart),
  all_sections xs held limit apart fine (suc round) count (omega arith) (omega (arith, high)),
)

count_rounds : (xs : List ℕ) (held : ℕ → ℕ → Option Entry) (round count : ℕ) → length (rounds_from xs held round count) ≡ count
count_rounds xs held round zero = refl
count_rounds xs held round (suc count) = ap (λ n. suc n) (count_rounds xs held (suc round) count)

-- what stands at a round and an AS, where the first entries have this and the others that
find_both : (es fs : List Row) (q : ℕ × ℕ) → map.find pair_cmp q (es ++ fs) ≡ option_or (map.find pair_cmp q es) (map.find pair_cmp q fs)
find_both [] fs q = refl
find_both (e ∷ es) fs q = ap (cond (eq_by_cmp pair_cmp q e.0) (Some e.1)) (find_both es fs q) ∙ by (eq_by_cmp pair_cmp q e.0)
  where
    by : (b : Bool) → cond b (Some e.1) (option_or (map.find pair_cmp q es) (map.find pair_cmp q fs)) ≡ option_or (cond b (Some e.1) (map.find pair_cmp q es)) (map.find pair_cmp q fs)
    by true = refl
    by false = refl

-- what a section of a round has at a round and an AS
find_rows : (held : ℕ → Option Entry) (xs : List ℕ) (round r a : ℕ) → map.find pair_cmp (r, a) (each (λ (row : ℕ × Option Entry). ((round, row.0), row.1)) (rows_of xs held)) ≡ cond ((round == r) && occurs a xs) (Some (held a)) None
find_rows held [] round r a = by (round == r)
  where
    by : (b : Bool) → None ≡ cond (b && false) (Some (held a)) None
    by true = refl
    by false = refl
find_rows held (x ∷ xs) round r a =
    (λ i. cond (at_pair r a (round, x) i) (Some (held x)) (find_rows held xs round r a i))
    ∙ ap (λ b. cond ((round == r) && b) (Some (held x)) (cond ((round == r) && occurs a xs) (Some (held a)) None)) (unsigned_tied a x ∙ nat_eq_equiv.symm a x)
    ∙ by (round == r) (x == a) refl
  where
    by : (b c : Bool) → (x == a) ≡ c → cond (b && c) (Some (held x)) (cond (b && occurs a xs) (Some (held a)) None) ≡ cond (b && (c || occurs a xs)) (Some (held a)) None
    by true true h = ap (λ y. Some (held y)) (eqb-true x a h)
    by true false h = refl
    by false c h = refl

-- what rounds have of a round before them, which is nothing
find_before : (xs : List ℕ) (held : ℕ → ℕ → Option Entry) (round count r a : ℕ) → r < round → map.find pair_cmp (r, a) (with_rounds round (rounds_from xs held round count)) ≡ None
find_before xs held round zero r a less = refl
find_before xs held round (suc count) r a less =
    find_both (each (λ (row : ℕ × Option Entry). ((round, row.0), row.1)) (rows_of xs (held round))) (with_rounds (suc round) (rounds_from xs held (suc round) count)) (r, a)
    ∙ (λ i. option_or ((find_rows (held round) xs round r a ∙ ap (λ b. cond (b && occurs a xs) (Some (held round a)) None) (ne_eqb round r (λ same. absurd (omega (arith, same, less))))) i) (find_before xs held (suc round) count r a (omega (arith, less)) i))

-- what rounds have of one of them
find_round : (xs : List ℕ) (held : ℕ → ℕ → Option Entry) (round count r a : ℕ) → round ≤ r → r < round + count → map.find pair_cmp (r, a) (with_rounds round (rounds_from xs held round count)) ≡ cond (occurs a xs) (Some (held r a)) None
find_round xs held round zero r a low high = absurd (omega (arith, low, high))
find_round xs held round (suc count) r a low high =
    find_both (each (λ (row : ℕ × Option Entry). ((round, row.0), row.1)) (rows_of xs (held round))) rest (r, a) ∙ ap (λ o. option_or o (map.find pair_cmp (r, a) rest)) (find_rows (held round) xs round r a) ∙ elim (cases_eq round r) [
      | inl same ↦ ap (λ b. option_or (cond (b && occurs a xs) (Some (held round a)) None) (map.find pair_cmp (r, a) rest)) (eq-eqb round r same)
          ∙ ap (option_or (cond (occurs a xs) (Some (held round a)) None)) (find_before xs held (suc round) count r a (omega (arith, same)))
          ∙ whole (cond (occurs a xs) (Some (held round a)) None) ∙ ap (λ n. cond (occurs a xs) (Some (held n a)) None) same
      | inr other ↦ ap (λ b. option_or (cond (b && occurs a xs) (Some (held round a)) None) (map.find pair_cmp (r, a) rest)) (ne_eqb round r other)
          ∙ find_round xs held (suc round) count r a (omega (arith, other, low)) (omega (arith, high))
    ]
  where
    rest : List Row
    rest = with_rounds (suc round) (rounds_from xs held (suc round) count)

    whole : (o : Option (Option Entry)) → option_or o None ≡ o
    whole None = refl
    whole (Some e) = refl

if_some : (o : Option Entry) → ((e : Entry) → o ≡ Some e → IsPrintable e) → IfSome o IsPrintable
if_some None h = tt
if_some (Some e) h = h e refl

pub printed_accepted : {P : Type 0} (meaning : P → Policy) → OneStableRouting meaning → PrintedRoundsAreAccepted meaning
printed_accepted meaning one w book state plan rounds g prefix more acyclic are known is numbers printable few bound =
    let asns = asns_of w in
    let listed = listed_are w in
    let held : ℕ → ℕ → Option Entry = λ round. g round prefix in
    let fine : (r a : ℕ) → 1 ≤ r → r ≤ more + 1 → occurs a asns ≡ true → IsRow (a, held r a) =
    λ r a low high o. record { asn = numbers a (sym (listed a) ∙ o); held = if_some (held r a) (λ e. printable r a e low high) } in
    let n = count_rounds asns held 2 more in
    let all = all_sections asns held (more + 1) (listed_once w) fine 1 (suc more) (omega arith) (omega arith) in
    let (starts, count, read) = tables_again prefix (rows_of asns (held 1)) (rounds_from asns held 2 more) is all (omega (arith, n, bound)) in
    let t : Tables = record { prefix = prefix; starts = starts; rows = map.from_entries (with_rounds 1 (rounds_from asns held 1 (suc more))) } in
    let len : length starts ≡ suc more = omega (arith, count, n) in
    let same : IsTableOf g t = λ before less a.
    ap (λ (o : Option (Option Entry)). option_and_then (λ h. h) o) (map.get-from_entries pairs_total (with_rounds 1 (rounds_from asns held 1 (suc more))) (suc before, a)
    ∙ find_round asns held 1 (suc more) (suc before) a (omega arith) (omega (arith, less, len)))
    ∙ at_as (occurs a asns) (held (suc before) a) (λ out. (are before prefix (omega (arith, less, len, few)) known).only_ases a (sym (listed a) ∙ out)) refl in
    (t, ap (λ text. tables_by (kept_from 1 text)) (text_is w g prefix 1 (suc more)) ∙ read, refl, len, same, are_accepted meaning one w book state plan rounds g t acyclic are known (omega (arith, len, few)) same)
  where
    at_as : (b : Bool) (o : Option Entry) → (b ≡ false → o ≡ None) → b ≡ b → option_and_then (λ h. h) (cond b (Some o) None) ≡ o
    at_as true o only e = refl
    at_as false o only e = sym (only refl)
