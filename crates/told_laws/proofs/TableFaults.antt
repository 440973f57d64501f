-- The fault of a printed table is that of its first faulty line.
use Rattle.std.proofs.Common.{◌≡◌, inl, inr, ℕ, Bool, true, false, true≢false, List, [], ◌∷◌, ◌++◌, length, Option, Some, None, Result, Ok, Err, if◌then◌else◌, refl, sym, ap, ◌∙◌}
use Rattle.std.specs.Prelude.{ok_or, option_map, unwrap_or}
use Rattle.std.specs.FinMap as fin
use Rattle.net_names.specs.Lines.{kept_from, said_on}
use Rattle.net_names.specs.Prefixes.{PrefixValue}
use Rattle.net_names.specs.Trials.{◌>>=◌}
use Rattle.scenario_text.specs.Forms.{for_of}
use Rattle.scenario_text.proofs.FileLines.{named, unnamed}
use Rattle.table_check.specs.Forms.{row_of}
use Rattle.table_check.specs.Reading.{tables_by, with_line, with_row}
use Rattle.table_check.specs.declared.reading.TablesError.{TablesError}
use Rattle.table_check.specs.declared.reading.TablesError.TheVariants.{NoFor, Twice, Unreadable}
use Rattle.table_check.specs.declared.tables.Tables.{Tables}
use Rattle.table_check.proofs.Lines.{none_yet, tables_are}
use Rattle.told_laws.specs.TableFiles.{IsFirstTableFault, IsTableFault, TableFaultsAreFirst}
use Rattle.told_laws.proofs.Folds.{fault_first, first_fault}
use Rattle.told_laws.proofs.TableFiles.{Lines, Row, file_said, heading_made, not_both, one_ok, said_file}

-- ---- one line

ok_err : {S E : Type 0} (r : Result S E) (s : S) (e : E) → r ≡ Ok s → r ≡ Err e → ⊥
ok_err r s e h g = let t : ◌≡◌ {A = Result _ _} (Ok s) (Err e) = sym h ∙ g in cc

none_some : {A : Type 0} (o : Option A) (x : A) → o ≡ None → o ≡ Some x → ⊥
none_some o x h g = let t : None ≡ Some x = sym h ∙ g in cc

rest_err : {X : Type 0} (o : Option X) (a : Tables) (r : Result Tables TablesError) (e : TablesError) → unwrap_or (option_map (λ _. Ok a) o) r ≡ Err e → r ≡ Err e
rest_err None a r e h = h
rest_err (Some x) a r e h = cc

line_fault : (t : Tables) (l : ℕ × List ℕ) (e : TablesError) → with_line t l ≡ Err e → IsTableFault t l e
line_fault t l e h = by (row_of l.1) refl (rest_err _ (record t { starts = t.starts ++ l.0 ∷ [] }) (ok_or (row_of l.1) (Unreadable l.0) >>= with_row t l.0) e h)
  where
    at : (row : Row) → row_of l.1 ≡ Some row → (b : Bool) → fin.contains_key t.rows (length t.starts, row.0) ≡ b
        → ◌≡◌ {A = Result Tables TablesError} (if b then Err (Twice l.0) else Ok (record t { rows = fin.insert t.rows (length t.starts, row.0) row.1 })) (Err e) → IsTableFault t l e
    at row form true has g = inr (row, form, has, let same : e ≡ Twice l.0 = cc in same)
    at row form false has g = cc

    by : (o : Option Row) → row_of l.1 ≡ o → (ok_or o (Unreadable l.0) >>= with_row t l.0) ≡ Err e → IsTableFault t l e
    by None form g = inl (λ names. ok_err (with_line t l) _ e (heading_made (length t.starts) t l refl names) h, form, let same : e ≡ Unreadable l.0 = cc in same)
    by (Some row) form g = at row form (fin.contains_key t.rows (length t.starts, row.0)) refl g

fault_line : (t : Tables) (l : ℕ × List ℕ) (e : TablesError) → IsTableFault t l e → with_line t l ≡ Err e
fault_line t l e fault = by (with_line t l) refl fault
  where
    by : (r : Result Tables TablesError) → with_line t l ≡ r → IsTableFault t l e → r ≡ Err e
    by (Ok u) is (inl (other, form, same)) = elim (one_ok (length t.starts) t u l refl is) [
      | inl (names, _) ↦ absurd (other names)
      | inr (row, found, _, _) ↦ absurd (none_some (row_of l.1) row form found)
    ]
    by (Ok u) is (inr (row, form, has, same)) = elim (one_ok (length t.starts) t u l refl is) [
      | inl (names, _) ↦ absurd (not_both l.1 _ row names form)
      | inr (found, is_found, free, _) ↦ (
          let both : Some row ≡ Some found = sym form ∙ is_found in
          let one : row ≡ found = cc in
          absurd (true≢false (sym has ∙ ap (λ (x : Row). fin.contains_key t.rows (length t.starts, x.0)) one ∙ free))
          )
    ]
    by (Err f) is (inl (other, form, same)) = elim (line_fault t l f is) [
      | inl (_, _, it) ↦ ap (λ (x : TablesError). Err x) (it ∙ sym same)
      | inr (row, found, _, _) ↦ absurd (none_some (row_of l.1) row form found)
    ]
    by (Err f) is (inr (row, form, has, same)) = elim (line_fault t l f is) [
      | inl (_, none, _) ↦ absurd (none_some (row_of l.1) row none form)
      | inr (_, _, _, it) ↦ ap (λ (x : TablesError). Err x) (it ∙ sym same)
    ]

-- ---- the file

tables_at : (l : ℕ × List ℕ) (ls : Lines) (x : ℕ × PrefixValue) → for_of l.1 ≡ Some x → tables_by (l ∷ ls) ≡ said_on with_line (none_yet x.1) (l ∷ ls)
tables_at l ls x f = tables_are (l ∷ ls) ∙ named NoFor Unreadable (λ _ (x : ℕ × PrefixValue) _. said_on with_line (none_yet x.1) (l ∷ ls)) (l ∷ ls) ls l.0 l.1 x refl (sym f)

tables_unnamed : (l : ℕ × List ℕ) (ls : Lines) → for_of l.1 ≡ None → tables_by (l ∷ ls) ≡ Err (Unreadable l.0)
tables_unnamed l ls f = tables_are (l ∷ ls) ∙ unnamed NoFor Unreadable (λ _ (x : ℕ × PrefixValue) _. said_on with_line (none_yet x.1) (l ∷ ls)) (l ∷ ls) ls l.0 l.1 refl (sym f)

there : (lines : Lines) (e : TablesError) → tables_by lines ≡ Err e → IsFirstTableFault lines e
unfolding said_on
there [] e h = inl (refl, let one : ◌≡◌ {A = Result Tables TablesError} (Err NoFor) (Err e) = sym (tables_are []) ∙ h in let same : e ≡ NoFor = cc in same)
there (l ∷ ls) e h = by (for_of l.1) refl
  where
    at : (x : ℕ × PrefixValue) → for_of l.1 ≡ Some x → (front : Lines) (item : ℕ × List ℕ) (back : Lines) (now : Tables) → l ∷ ls ≡ front ++ item ∷ back → said_on with_line (none_yet x.1) front ≡ Ok now → with_line now item ≡ Err e → IsFirstTableFault (l ∷ ls) e
    at x f [] item back now cut good fault =
        let first : l ≡ item = cc in
        let start : none_yet x.1 ≡ now = cc in
        let here : IsTableFault (none_yet x.1) l e = line_fault (none_yet x.1) l e ((λ i. with_line (start i) (first i)) ∙ fault) in
        elim here [
          | inl (other, form, same) ↦ inr (inl (l, ls, refl, (λ p names. other (names ∙ ap (λ (q : PrefixValue). Some (1, q)) (let both : Some x ≡ Some (1, p) = sym f ∙ names in let one : x ≡ (1, p) = cc in sym (ap (λ (y : ℕ × PrefixValue). y.1) one)))), same))
          | inr (row, form, _, _) ↦ absurd (not_both l.1 x row f form)
        ]
    at x f (k ∷ front) item back now cut good fault =
        let first : l ≡ k = cc in
        inr (inr (k ∷ front, item, back, now, cut, file_said (k ∷ front) now (tables_at k front x (ap (λ (y : ℕ × List ℕ). for_of y.1) (sym first) ∙ f) ∙ good), line_fault now item e fault))

    by : (o : Option (ℕ × PrefixValue)) → for_of l.1 ≡ o → IsFirstTableFault (l ∷ ls) e
    by None f =
        let one : ◌≡◌ {A = Result Tables TablesError} (Err (Unreadable l.0)) (Err e) = sym (tables_unnamed l ls f) ∙ h in
        inr (inl (l, ls, refl, (λ p names. none_some (for_of l.1) (1, p) f names), let same : e ≡ Unreadable l.0 = cc in same))
    by (Some x) f = let k = first_fault with_line (none_yet x.1) (l ∷ ls) e (sym (tables_at l ls x f) ∙ h) in at x f k.front k.item k.back k.now k.cut k.good k.fault

back_again : (lines : Lines) (e : TablesError) → IsFirstTableFault lines e → tables_by lines ≡ Err e
unfolding said_on
back_again lines e (inl (none, same)) = ap tables_by none ∙ tables_are [] ∙ ap (λ (x : TablesError). Err x) (sym same)
back_again lines e (inr (inl (l, ls, are, other, same))) = ap tables_by are ∙ by (for_of l.1) refl
  where
    by : (o : Option (ℕ × PrefixValue)) → for_of l.1 ≡ o → tables_by (l ∷ ls) ≡ Err e
    by None f = tables_unnamed l ls f ∙ ap (λ (x : TablesError). Err x) (sym same)
    by (Some x) f =
        let fault : with_line (none_yet x.1) l ≡ Err e = fault_line (none_yet x.1) l e (inl (other x.1, (by_row (row_of l.1) refl), same)) in
        tables_at l ls x f ∙ fault_first with_line (none_yet x.1) (l ∷ ls) e (record { front = []; item = l; back = ls; cut = refl; now = none_yet x.1; good = nothing_said (none_yet x.1); fault = fault })
      where
        nothing_said : (t : Tables) → said_on with_line t [] ≡ Ok t
        nothing_said t = refl

        by_row : (o : Option Row) → row_of l.1 ≡ o → row_of l.1 ≡ None
        by_row None form = form
        by_row (Some row) form = absurd (not_both l.1 x row f form)
back_again lines e (inr (inr ([], l, ls, t, cut, are, fault))) = absurd (let (text, own, more, nothing, names, says, rest) = are.are in (let none : [] ≡ (are.first.0, text) ∷ own ++ more = nothing in cc))
back_again lines e (inr (inr (k ∷ front, l, ls, t, cut, are, fault))) =
    let (text, own, more, lines_are, names, says, rest) = are.are in
    let first : k ≡ (are.first.0, text) = cc in
    let f : for_of k.1 ≡ Some (1, t.prefix) = ap (λ (y : ℕ × List ℕ). for_of y.1) first ∙ names in
    let good : said_on with_line (none_yet t.prefix) (k ∷ front) ≡ Ok t = sym (tables_at k front (1, t.prefix) f) ∙ said_file (k ∷ front) t are in
    ap tables_by cut ∙ tables_at k (front ++ l ∷ ls) (1, t.prefix) f
    ∙ fault_first with_line (none_yet t.prefix) (k ∷ front ++ l ∷ ls) e (record { front = k ∷ front; item = l; back = ls; cut = refl; now = t; good = good; fault = fault_line t l e fault })

pub faults_first : TableFaultsAreFirst
faults_first bytes e = (there (kept_from 1 bytes) e, back_again (kept_from 1 bytes) e)
