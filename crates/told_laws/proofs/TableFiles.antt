-- A printed table is accepted exactly where its lines are sections of rows.
use Rattle.std.proofs.Common.{◌≡◌, ◌⊎◌, inl, inr, ℕ, zero, suc, ◌+◌, ◌^◌, ◌≤◌, ◌==◌, ◌&&◌, ◌||◌, Bool, true, false, true≢false, cond, List, [], ◌∷◌, ◌++◌, map, length, take, drop, Option, Some, None, is_some, Result, Ok, Err, if◌then◌else◌, refl, sym, ap, subst, ◌∙◌, append_assoc, append-nil, length-append, le_of_eq, arith}
use Rattle.std.specs.Prelude.{ok_or, option_map, unwrap_or, nat_lt, nat_le, option_and_then}
use Rattle.std.specs.Bool.{then_some}
use Rattle.std.specs.FinMap as fin
use Rattle.std.specs.List.{AllByRecursion}
use Rattle.std.specs.Option.{option_zip}
use Rattle.std.specs.Ordering.{eq_by_cmp}
use Rattle.std.specs.Str.Parse.{digits_value}
use Rattle.std.proofs.lemmas.Bool.{eq-eqb, eqb-true, or_left, or_right}
use Rattle.net_names.specs.Lines.{kept_from, said_on}
use Rattle.net_names.specs.Links.{pair_cmp}
use Rattle.net_names.specs.Numbers.{IsDistinct, occurs}
use Rattle.net_names.specs.Orders.{exact_prefix, prefix_total}
use Rattle.net_names.specs.Prefixes.{PrefixValue, prefix_cmp}
use Rattle.net_names.specs.Steps.{option_filter}
use Rattle.net_names.specs.Texts.{asn_of, numeral}
use Rattle.net_names.specs.Trials.{◌>>=◌}
use Rattle.net_names.proofs.Pairs.{exact_pair, pairs_total}
use Rattle.scenario_text.specs.Forms.{for_of, pair}
use Rattle.scenario_text.proofs.FileLines.{begun, named}
use Rattle.stability_laws.specs.declared.entry.Entry.{Entry}
use Rattle.stability_laws.proofs.KeyLists.{eq_is, eq_same}
use Rattle.table_check.specs.Forms.{row_of}
use Rattle.table_check.specs.Printed.{with_rounds}
use Rattle.table_check.specs.Reading.{tables_by, with_line, with_row}
use Rattle.table_check.specs.Rows.{RowMap}
use Rattle.table_check.specs.declared.reading.TablesError.{TablesError}
use Rattle.table_check.specs.declared.reading.TablesError.TheVariants.{NoFor, Twice, Unreadable}
use Rattle.table_check.specs.declared.tables.Tables.{Tables}
use Rattle.table_check.proofs.Lines.{none_yet, tables_are}
use Rattle.told_laws.proofs.Folds.{said_append}
use Rattle.told_laws.specs.TableFiles.{AreSections, AreTables, Section, TablesAreThoseSaid}

abbrev pub Row : Type 0
Row = ℕ × Option Entry

abbrev Put : Type 0
Put = (ℕ × ℕ) × Option Entry

abbrev pub Lines : Type 0
Lines = List (ℕ × List ℕ)

-- ---- a row is no `for` line

front_digit : (ts : List ℕ) (i : ℕ) → asn_of (take i (102 ∷ ts)) ≡ None
unfolding asn_of numeral
front_digit ts zero = refl
front_digit ts (suc i) = by (nat_lt 0 (length (102 ∷ take i ts))) (nat_le (length (102 ∷ take i ts)) 10)
  where
    by : (some few : Bool) → option_filter (λ n. nat_lt 0 n && nat_lt n (2 ^ 32)) (then_some (some && (few && false)) (digits_value 10 (102 ∷ take i ts))) ≡ None
    by true true = refl
    by true false = refl
    by false few = refl

begins_for : (text : List ℕ) (x : ℕ × PrefixValue) → for_of text ≡ Some x → (ts : List ℕ) × (text ≡ 102 ∷ ts)
unfolding for_of
begins_for [] x h = cc
begins_for (c ∷ ts) x h = by (102 == c) refl h
  where
    by : (b : Bool) → (102 == c) ≡ b → for_of (c ∷ ts) ≡ Some x → (us : List ℕ) × (c ∷ ts ≡ 102 ∷ us)
    by true is e = (ts, ap (λ n. n ∷ ts) (sym (eqb-true 102 c is)))
    by false is e = absurd cc

zip_none : {A B : Type 0} (first : List ℕ → Option A) (second : List ℕ → Option B) (ts : List ℕ) → ((i : ℕ) → first (take i (102 ∷ ts)) ≡ None) → (o : Option ℕ)
    → option_and_then (λ (p : List ℕ × List ℕ). option_zip (first p.0) (second p.1)) (option_map (λ (i : ℕ). (take i (102 ∷ ts), drop (i + 1) (102 ∷ ts))) o) ≡ None
zip_none first second ts none None = refl
zip_none first second ts none (Some i) = ap (λ z. option_zip z (second (drop (i + 1) (102 ∷ ts)))) (none i)

row_none : (ts : List ℕ) → row_of (102 ∷ ts) ≡ None
unfolding row_of pair
row_none ts = zip_none asn_of _ ts (front_digit ts) _

pub not_both : (text : List ℕ) (x : ℕ × PrefixValue) (row : Row) → for_of text ≡ Some x → row_of text ≡ Some row → ⊥
not_both text x row f r =
    let (ts, is) = begins_for text x f in
    let none : None ≡ Some row = sym (ap row_of is ∙ row_none ts) ∙ r in
    (let t : ⊥ = cc in t)

for_none : (text : List ℕ) (row : Row) → row_of text ≡ Some row → for_of text ≡ None
for_none text row r = by (for_of text) refl
  where
    by : (o : Option (ℕ × PrefixValue)) → for_of text ≡ o → o ≡ None
    by None e = refl
    by (Some x) e = absurd (not_both text x row e r)

-- ---- one line

pub begun_at : Tables → ℕ → Tables
begun_at t n = record t { starts = t.starts ++ n ∷ [] }

pub with_put : Tables → ℕ → Row → Tables
with_put t r row = record t { rows = fin.insert t.rows (r, row.0) row.1 }

abbrev pub OneLine : ℕ → Tables → Tables → ℕ × List ℕ → Type 0
OneLine r t u l = ((for_of l.1 ≡ Some (suc r, t.prefix)) × (u ≡ begun_at t l.0)) ⊎ ((row : Row) × (row_of l.1 ≡ Some row) × (fin.contains_key t.rows (r, row.0) ≡ false) × (u ≡ with_put t r row))

put_ok : (r : ℕ) (t u : Tables) (l : ℕ × List ℕ) → length t.starts ≡ r → (ok_or (row_of l.1) (Unreadable l.0) >>= with_row t l.0) ≡ Ok u → (row : Row) × (row_of l.1 ≡ Some row) × (fin.contains_key t.rows (r, row.0) ≡ false) × (u ≡ with_put t r row)
unfolding with_put
put_ok r t u l e h = by (row_of l.1) refl h
  where
    at : (row : Row) (b : Bool) → fin.contains_key t.rows (length t.starts, row.0) ≡ b → ◌≡◌ {A = Result Tables TablesError} (if b then Err (Twice l.0) else Ok (record t { rows = fin.insert t.rows (length t.starts, row.0) row.1 })) (Ok u)
        → (fin.contains_key t.rows (r, row.0) ≡ false) × (u ≡ with_put t r row)
    at row true is h = cc
    at row false is h =
        let same : u ≡ record t { rows = fin.insert t.rows (length t.starts, row.0) row.1 } = cc in
        (ap (λ k. fin.contains_key t.rows (k, row.0)) (sym e) ∙ is, same ∙ ap (λ k. record t { rows = fin.insert t.rows (k, row.0) row.1 }) e)

    by : (o : Option Row) → row_of l.1 ≡ o → (ok_or o (Unreadable l.0) >>= with_row t l.0) ≡ Ok u → (row : Row) × (row_of l.1 ≡ Some row) × (fin.contains_key t.rows (r, row.0) ≡ false) × (u ≡ with_put t r row)
    by None is h = cc
    by (Some row) is h = let a = at row (fin.contains_key t.rows (length t.starts, row.0)) refl h in (row, is, a.0, a.1)

pub one_ok : (r : ℕ) (t u : Tables) (l : ℕ × List ℕ) → length t.starts ≡ r → with_line t l ≡ Ok u → OneLine r t u l
unfolding begun_at
one_ok r t u l e h = by (for_of l.1) refl h
  where
    rest : Result Tables TablesError
    rest = ok_or (row_of l.1) (Unreadable l.0) >>= with_row t l.0

    at : (x : ℕ × PrefixValue) (b c : Bool) → for_of l.1 ≡ Some x → (x.0 == length t.starts + 1) ≡ b → eq_by_cmp prefix_cmp t.prefix x.1 ≡ c
        → unwrap_or (option_map (λ _. Ok (record t { starts = t.starts ++ l.0 ∷ [] })) (if b && c then Some x else None)) (ok_or (row_of l.1) (Unreadable l.0) >>= with_row t l.0) ≡ Ok u → OneLine r t u l
    at x true true f num pre h =
        let round : x.0 ≡ suc r = (let n : x.0 ≡ length t.starts + 1 = eqb-true x.0 (length t.starts + 1) num in omega (arith, n, e)) in
        let prefix : x.1 ≡ t.prefix = sym (eq_is prefix_total exact_prefix t.prefix x.1 pre) in
        inl (f ∙ (λ i. Some (round i, prefix i)), let same : u ≡ record t { starts = t.starts ++ l.0 ∷ [] } = cc in same)
    at x true false f num pre h = inr (put_ok r t u l e h)
    at x false c f num pre h = inr (put_ok r t u l e h)

    by : (o : Option (ℕ × PrefixValue)) → for_of l.1 ≡ o → unwrap_or (option_map (λ _. Ok (record t { starts = t.starts ++ l.0 ∷ [] })) (option_filter (λ x. (x.0 == length t.starts + 1) && eq_by_cmp prefix_cmp t.prefix x.1) o))
        (ok_or (row_of l.1) (Unreadable l.0) >>= with_row t l.0) ≡ Ok u → OneLine r t u l
    by None f h = inr (put_ok r t u l e h)
    by (Some x) f h = at x (x.0 == length t.starts + 1) (eq_by_cmp prefix_cmp t.prefix x.1) f refl refl h

pub heading_made : (r : ℕ) (t : Tables) (l : ℕ × List ℕ) → length t.starts ≡ r → for_of l.1 ≡ Some (suc r, t.prefix) → with_line t l ≡ Ok (begun_at t l.0)
unfolding begun_at
heading_made r t l e f =
    let num : (suc r == length t.starts + 1) ≡ true = eq-eqb (suc r) (length t.starts + 1) (omega (arith, e)) in
    let pre : eq_by_cmp prefix_cmp t.prefix t.prefix ≡ true = eq_same prefix_total exact_prefix t.prefix t.prefix refl in
    rw (f, num, pre) refl

row_made : (r : ℕ) (t : Tables) (l : ℕ × List ℕ) (row : Row) → length t.starts ≡ r → row_of l.1 ≡ Some row → fin.contains_key t.rows (r, row.0) ≡ false → with_line t l ≡ Ok (with_put t r row)
unfolding with_put
row_made r t l row e f free =
    let none = for_none l.1 row f in
    let free_here : fin.contains_key t.rows (length t.starts, row.0) ≡ false = ap (λ k. fin.contains_key t.rows (k, row.0)) e ∙ free in
    rw (none, f, free_here) (ap (λ k. Ok (record t { rows = fin.insert t.rows (k, row.0) row.1 })) e)

-- ---- rows that are put in

abbrev at_round : ℕ → List Row → List Put
at_round r = map (λ row. ((r, row.0), row.1))

abbrev put_all : RowMap → List Put → RowMap
put_all m [] = m
put_all m (e ∷ es) = put_all (fin.insert m e.0 e.1) es

-- each of them is new when it is put in
abbrev AreNew : RowMap → List Put → Type 0
AreNew m [] = Unit {0}
AreNew m (e ∷ es) = (fin.contains_key m e.0 ≡ false) × AreNew (fin.insert m e.0 e.1) es

put_append : (m : RowMap) (xs ys : List Put) → put_all m (xs ++ ys) ≡ put_all (put_all m xs) ys
put_append m [] ys = refl
put_append m (x ∷ xs) ys = put_append (fin.insert m x.0 x.1) xs ys

new_behind : (m : RowMap) (xs ys : List Put) → AreNew m (xs ++ ys) → AreNew (put_all m xs) ys
new_behind m [] ys h = h
new_behind m (x ∷ xs) ys h = new_behind (fin.insert m x.0 x.1) xs ys h.1

none_is : (o : Option (Option Entry)) → is_some o ≡ false → o ≡ None
none_is None h = refl
none_is (Some x) h = absurd (true≢false h)

pushed : (es done : List Put) (m : RowMap) → m ≡ fin.from_entries done → AreNew m es → put_all m es ≡ fin.from_entries (done ++ es)
pushed [] done m is new = is ∙ ap fin.from_entries (sym (append-nil done))
pushed (e ∷ es) done m is new =
    let free : fin.find pair_cmp e.0 done ≡ None = none_is _ (ap is_some (sym (ap (λ k. fin.get k e.0) is ∙ fin.get-from_entries pairs_total done e.0)) ∙ new.0) in
    let one = fin.from_entries_push pairs_total exact_pair done e.0 e.1 free in
    pushed es (done ++ e ∷ []) (fin.insert m e.0 e.1) (ap (λ k. fin.insert k e.0 e.1) is ∙ sym one) new.1 ∙ ap fin.from_entries (append_assoc done (e ∷ []) es)

has_put : (m : RowMap) (k q : ℕ × ℕ) (v : Option Entry) → fin.contains_key (fin.insert m k v) q ≡ (eq_by_cmp pair_cmp q k || fin.contains_key m q)
has_put m k q v = ap is_some (fin.get-insert pairs_total m k v q) ∙ by (eq_by_cmp pair_cmp q k)
  where
    by : (b : Bool) → is_some (cond b (Some v) (fin.get m q)) ≡ (b || is_some (fin.get m q))
    by true = refl
    by false = refl

-- ---- one row of an AS in a section

or_true : (b : Bool) → (b || true) ≡ true
or_true true = refl
or_true false = refl

itself : (k : ℕ × ℕ) → eq_by_cmp pair_cmp k k ≡ true
itself k = eq_same pairs_total exact_pair k k refl

apart : (own : List Row) (m : RowMap) (r a : ℕ) (rest : List Put) → fin.contains_key m (r, a) ≡ true → AreNew m (at_round r own ++ rest) → occurs a (map (λ row. row.0) own) ≡ false
apart [] m r a rest has new = refl
apart (x ∷ xs) m r a rest has new =
    by (x.0 == a) refl (apart xs (fin.insert m (r, x.0) x.1) r a rest (has_put m (r, x.0) (r, a) x.1 ∙ ap (λ b. eq_by_cmp pair_cmp (r, a) (r, x.0) || b) has ∙ or_true (eq_by_cmp pair_cmp (r, a) (r, x.0))) new.1)
  where
    by : (b : Bool) → (x.0 == a) ≡ b → occurs a (map (λ row. row.0) xs) ≡ false → (b || occurs a (map (λ row. row.0) xs)) ≡ false
    by true is more = absurd (true≢false (sym has ∙ ap (λ n. fin.contains_key m (r, n)) (sym (eqb-true x.0 a is)) ∙ new.0))
    by false is more = more

distinct_of : (own : List Row) (m : RowMap) (r : ℕ) (rest : List Put) → AreNew m (at_round r own ++ rest) → IsDistinct (map (λ row. row.0) own)
distinct_of [] m r rest new = tt
distinct_of (x ∷ xs) m r rest new =
    let m1 = fin.insert m (r, x.0) x.1 in
    (apart xs m1 r x.0 rest (has_put m (r, x.0) (r, x.0) x.1 ∙ ap (λ b. b || fin.contains_key m (r, x.0)) (itself (r, x.0))) new.1, distinct_of xs m1 r rest new.1)

abbrev AreOnce : List Section → Type 0
AreOnce = AllByRecursion (λ s. IsDistinct (map (λ row. row.0) s.1))

once_of : (ss : List Section) (m : RowMap) (r : ℕ) → AreNew m (with_rounds r (map (λ s. s.1) ss)) → AreOnce ss
once_of [] m r new = tt
once_of (s ∷ ss) m r new = (distinct_of s.1 m r (with_rounds (suc r) (map (λ s. s.1) ss)) new, once_of ss (put_all m (at_round r s.1)) (suc r) (new_behind m (at_round r s.1) (with_rounds (suc r) (map (λ s. s.1) ss)) new))

-- nothing stands at this round or behind it
Fresh : RowMap → ℕ → Type 0
Fresh m r = (q : ℕ × ℕ) → r ≤ q.0 → fin.contains_key m q ≡ false

both_false : (a b : Bool) → a ≡ false → b ≡ false → (a || b) ≡ false
both_false a b x y = rw (x, y) refl

differs : (q k : ℕ × ℕ) → (q ≡ k → ⊥) → eq_by_cmp pair_cmp q k ≡ false
differs q k ne = by (eq_by_cmp pair_cmp q k) refl
  where
    by : (b : Bool) → eq_by_cmp pair_cmp q k ≡ b → b ≡ false
    by true is = absurd (ne (eq_is pairs_total exact_pair q k is))
    by false is = refl

new_rows : (own : List Row) (m : RowMap) (r : ℕ) (rest : List Put) → ((a : ℕ) → occurs a (map (λ row. row.0) own) ≡ true → fin.contains_key m (r, a) ≡ false) → IsDistinct (map (λ row. row.0) own)
    → AreNew (put_all m (at_round r own)) rest → AreNew m (at_round r own ++ rest)
new_rows [] m r rest free once behind = behind
new_rows (x ∷ xs) m r rest free once behind = (
  free x.0 (or_left (x.0 == x.0) _ (eq-eqb x.0 x.0 refl)),
  new_rows xs (fin.insert m (r, x.0) x.1) r rest (λ a there. has_put m (r, x.0) (r, a) x.1 ∙ both_false (eq_by_cmp pair_cmp (r, a) (r, x.0)) (fin.contains_key m (r, a)) (differs (r, a) (r, x.0) (λ same. other a there (ap (λ (q : ℕ × ℕ). q.1) same))) (free a (or_right (x.0 == a) _ there))) once.1 behind,
)
  where
    other : (a : ℕ) → occurs a (map (λ row. row.0) xs) ≡ true → a ≡ x.0 → ⊥
    other a there same = true≢false (sym there ∙ ap (λ n. occurs n (map (λ row. row.0) xs)) same ∙ once.0)

fresh_after : (own : List Row) (m : RowMap) (r : ℕ) → Fresh m (suc r) → Fresh (put_all m (at_round r own)) (suc r)
unfolding Fresh
fresh_after [] m r fresh = fresh
fresh_after (x ∷ xs) m r fresh = fresh_after xs (fin.insert m (r, x.0) x.1) r
    (λ q le. has_put m (r, x.0) q x.1 ∙ both_false (eq_by_cmp pair_cmp q (r, x.0)) (fin.contains_key m q) (differs q (r, x.0) (λ same. (let e : q.0 ≡ r = ap (λ (k : ℕ × ℕ). k.0) same in omega (arith, le, e)))) (fresh q le))

once_new : (ss : List Section) (m : RowMap) (r : ℕ) → Fresh m r → AreOnce ss → AreNew m (with_rounds r (map (λ s. s.1) ss))
unfolding Fresh
once_new [] m r fresh once = tt
once_new (s ∷ ss) m r fresh once =
    new_rows s.1 m r (with_rounds (suc r) (map (λ s. s.1) ss)) (λ a there. fresh (r, a) (le_of_eq refl)) once.0
    (once_new ss (put_all m (at_round r s.1)) (suc r) (fresh_after s.1 m r (λ q le. fresh q (omega (arith, le)))) once.1)

-- ---- what sections make

rows_made : (own : List Row) (ls : Lines) (r : ℕ) (t : Tables) (rest : List Put) → length t.starts ≡ r → map (λ l. row_of l.1) ls ≡ map Some own → AreNew t.rows (at_round r own ++ rest)
    → said_on with_line t ls ≡ Ok (record t { rows = put_all t.rows (at_round r own) })
unfolding said_on with_put
rows_made [] [] r t rest e is new = refl
rows_made [] (l ∷ ls) r t rest e is new = cc
rows_made (x ∷ xs) [] r t rest e is new = cc
rows_made (x ∷ xs) (l ∷ ls) r t rest e is new =
    let head : row_of l.1 ≡ Some x = cc in
    let tail : map (λ l. row_of l.1) ls ≡ map Some xs = cc in
    ap (λ (res : Result Tables TablesError). res >>= λ t. said_on with_line t ls) (row_made r t l x e head new.0) ∙ rows_made xs ls r (with_put t r x) rest e tail new.1

sections_made : (ss : List Section) (ls : Lines) (r : ℕ) (t : Tables) → length t.starts ≡ r → AreSections t.prefix (suc r) ls ss → AreNew t.rows (with_rounds (suc r) (map (λ s. s.1) ss))
    → said_on with_line t ls ≡ Ok (record t { starts = t.starts ++ map (λ s. s.0) ss; rows = put_all t.rows (with_rounds (suc r) (map (λ s. s.1) ss)) })
unfolding said_on begun_at
sections_made [] ls r t e are new = ap (said_on with_line t) are ∙ (λ i. Ok (record t { starts = sym (append-nil t.starts) i }))
sections_made (s ∷ ss) ls r t e (text, own, more, cut, names, says, rest) new =
    let long : length (t.starts ++ s.0 ∷ []) ≡ suc r = (let n = length-append t.starts (s.0 ∷ []) in omega (arith, n, e)) in
    let later = with_rounds (suc (suc r)) (map (λ s. s.1) ss) in
    ap (said_on with_line t) cut
    ∙ ap (λ (res : Result Tables TablesError). res >>= λ t. said_on with_line t (own ++ more)) (heading_made r t (s.0, text) e names)
    ∙ said_append with_line (begun_at t s.0) own more
    ∙ ap (λ (res : Result Tables TablesError). res >>= λ t. said_on with_line t more) (rows_made s.1 own (suc r) (begun_at t s.0) later long says new)
    ∙ sections_made ss more (suc r) (record t { starts = t.starts ++ s.0 ∷ []; rows = put_all t.rows (at_round (suc r) s.1) }) long rest (new_behind t.rows (at_round (suc r) s.1) later new)
    ∙ (λ i. Ok (record t { starts = append_assoc t.starts (s.0 ∷ []) (map (λ s. s.0) ss) i; rows = sym (put_append t.rows (at_round (suc r) s.1) later) i }))

-- ---- what lines say

record Walked (r : ℕ) (t u : Tables) (ls : Lines) : Type 0 where
  own : List Row
  front : Lines
  back : Lines
  cut : ls ≡ front ++ back
  said : map (λ l. row_of l.1) front ≡ map Some own
  later : List Section
  are : AreSections t.prefix (suc r) back later
  prefix : u.prefix ≡ t.prefix
  starts : u.starts ≡ t.starts ++ map (λ s. s.0) later
  rows : u.rows ≡ put_all t.rows (at_round r own ++ with_rounds (suc r) (map (λ s. s.1) later))
  new : AreNew t.rows (at_round r own ++ with_rounds (suc r) (map (λ s. s.1) later))

walk : (ls : Lines) (r : ℕ) (t u : Tables) → length t.starts ≡ r → said_on with_line t ls ≡ Ok u → Walked r t u ls
unfolding said_on begun_at with_put
walk [] r t u e h =
    let same : t ≡ u = cc in
    record { own = []; front = []; back = []; cut = refl; said = refl; later = []; are = refl; prefix = ap (λ (v : Tables). v.prefix) (sym same); starts = ap (λ (v : Tables). v.starts) (sym same) ∙ sym (append-nil t.starts); rows = ap (λ (v : Tables). v.rows) (sym same); new = tt }
walk (l ∷ ls) r t u e h = by (with_line t l) refl h (walk ls)
  where
    by : (res : Result Tables TablesError) → with_line t l ≡ res → (res >>= λ t. said_on with_line t ls) ≡ Ok u → ((r : ℕ) (t u : Tables) → length t.starts ≡ r → said_on with_line t ls ≡ Ok u → Walked r t u ls) → Walked r t u (l ∷ ls)
    by (Err f) is h more = cc
    by (Ok v) is h more = elim (one_ok r t v l e is) [
      | inl (names, same) ↦ (
          let k = more (suc r) (begun_at t l.0) u (let n = length-append t.starts (l.0 ∷ []) in omega (arith, n, e)) (ap (λ t. said_on with_line t ls) (sym same) ∙ h) in
          record {
            own = [];
            front = [];
            back = l ∷ ls;
            cut = refl;
            said = refl;
            later = (l.0, k.own) ∷ k.later;
            are = (l.1, k.front, k.back, ap (λ t. l ∷ t) k.cut, names, k.said, k.are);
            prefix = k.prefix;
            starts = k.starts ∙ append_assoc t.starts (l.0 ∷ []) (map (λ s. s.0) k.later);
            rows = k.rows;
            new = k.new;
          }
          )
      | inr (row, form, free, same) ↦ (
          let k = more r (with_put t r row) u e (ap (λ t. said_on with_line t ls) (sym same) ∙ h) in
          record {
            own = row ∷ k.own;
            front = l ∷ k.front;
            back = k.back;
            cut = ap (λ t. l ∷ t) k.cut;
            said = (λ i. form i ∷ k.said i);
            later = k.later;
            are = k.are;
            prefix = k.prefix;
            starts = k.starts;
            rows = k.rows;
            new = (free, k.new);
          }
          )
    ]

-- ---- the file

module _ (lines : Lines) (t : Tables) where
  pub file_said : tables_by lines ≡ Ok t → AreTables lines t
  file_said h =
      let b = begun NoFor Unreadable (λ _ (x : ℕ × PrefixValue) _. said_on with_line (none_yet x.1) lines) lines t (sym (tables_are lines) ∙ h) in
      let w = walk lines 0 (none_yet b.names.1) t refl b.says_so in
      by b.number b.text b.rest b.names b.lines_are b.names_are w.own w.front w.back w.later w.cut w.said w.are w.prefix w.starts w.rows w.new
    where
      by : (number : ℕ) (text : List ℕ) (rest : Lines) (names : ℕ × PrefixValue) → lines ≡ (number, text) ∷ rest → for_of text ≡ Some names
          → (own : List Row) (front back : Lines) (later : List Section) → lines ≡ front ++ back → map (λ l. row_of l.1) front ≡ map Some own → AreSections names.1 1 back later → t.prefix ≡ names.1
          → t.starts ≡ map (λ s. s.0) later → t.rows ≡ put_all fin.empty (at_round 0 own ++ with_rounds 1 (map (λ s. s.1) later)) → AreNew fin.empty (at_round 0 own ++ with_rounds 1 (map (λ s. s.1) later)) → AreTables lines t
      by number text rest names are name [] (l ∷ front) back later cut said secs prefix starts rows new = cc
      by number text rest names are name (x ∷ own) [] back later cut said secs prefix starts rows new = cc
      by number text rest names are name (x ∷ own) (l ∷ front) back later cut said secs prefix starts rows new =
          let both : (number, text) ∷ rest ≡ l ∷ (front ++ back) = sym are ∙ cut in
          let first : (number, text) ≡ l = cc in
          let head : row_of l.1 ≡ Some x = cc in
          absurd (not_both text names x name (ap (λ (k : ℕ × List ℕ). row_of k.1) first ∙ head))
      by number text rest names are name [] [] back [] cut said secs prefix starts rows new = absurd (let none : (number, text) ∷ rest ≡ [] = sym are ∙ cut ∙ secs in cc)
      by number text rest names are name [] [] back (s ∷ ss) cut said secs prefix starts rows new = record {
        first = s;
        more = ss;
        are = subst (λ p. AreSections p 1 lines (s ∷ ss)) (sym prefix) (subst (λ ls. AreSections names.1 1 ls (s ∷ ss)) (sym cut) secs);
        once = once_of (s ∷ ss) fin.empty 1 new;
        starts = starts;
        rows = rows ∙ pushed (with_rounds 1 (map (λ s. s.1) (s ∷ ss))) [] fin.empty refl new;
      }

  pub said_file : AreTables lines t → tables_by lines ≡ Ok t
  unfolding Fresh
  said_file f =
      let new = once_new (f.first ∷ f.more) fin.empty 1 (λ q le. ap is_some (fin.get-empty pair_cmp q)) f.once in
      let (text, own, more, cut, names, says, rest) = f.are in
      tables_are lines
      ∙ named NoFor Unreadable (λ _ (x : ℕ × PrefixValue) _. said_on with_line (none_yet x.1) lines) lines (own ++ more) f.first.0 text (1, t.prefix) cut (sym names)
      ∙ sections_made (f.first ∷ f.more) lines 0 (none_yet t.prefix) refl f.are new
      ∙ (λ i. Ok (record t { starts = sym f.starts i; rows = (pushed (with_rounds 1 (map (λ s. s.1) (f.first ∷ f.more))) [] fin.empty refl new ∙ sym f.rows) i }))

pub those_said : TablesAreThoseSaid
those_said bytes t = (file_said (kept_from 1 bytes) t, said_file (kept_from 1 bytes) t)
