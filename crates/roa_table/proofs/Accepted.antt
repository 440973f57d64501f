-- Which rows have payloads, which payloads they give, and where the first faulty row stands.
use Rattle.std.proofs.Common.{◌≡◌, ℕ, ◌+◌, ◌-◌, ◌<◌, ◌≤◌, Bool, true, false, List, [], ◌∷◌, ◌++◌, length, take, drop, take-append-drop, length-append, append-nil, append_assoc, get_or, Option, Some, None, Result, Ok, Err, IsOk, refl, sym, ap, subst, ◌∙◌, arith, inl, inr, zero, suc}
use Rattle.std.specs.Prelude.{is_ok, ok_or, option_and_then}
use Rattle.std.specs.List.{Any, cons_option}
use Rattle.std.specs.Option.{option_or}
use Rattle.std.specs.Result.{result_ok}
use Rattle.std.specs.Ordering.{eq_by_cmp}
use Rattle.std.specs.FinMap as fin
use Rattle.std.proofs.Math.Seq.{take-append-add}
use Rattle.std.proofs.lemmas.List.{take-append-le}
use Rattle.std.proofs.lemmas.List.Elements.{All-nil, All-push, All-take}
use Rattle.std.proofs.lemmas.List.Sums.{list_all-from_AllPass}
use Rattle.net_names.specs.Trials.{◌>>=◌}
use Rattle.net_names.specs.Texts.{vrp_asn_of, prefix_of}
use Rattle.net_names.specs.Prefixes.{PrefixValue}
use Rattle.net_names.specs.Payloads.{VrpValue, vrp_at, vrp_cmp}
use Rattle.net_names.specs.Orders.{vrp_total, exact_vrp}
use Rattle.roa_table.specs.Sets.{count}
use Rattle.roa_table.specs.Lists.{stands_in}
use Rattle.roa_table.specs.Records.{payload_of}
use Rattle.roa_table.specs.Files.{given, fault_of}
use Rattle.roa_table.specs.Standing.{Record}
use Rattle.roa_table.specs.Judging.{max_of, payloads_of}
use Rattle.roa_table.specs.Laws.{HasPayloads, row_of, IsFirstFaulty}
use Rattle.roa_table.specs.declared.errors.VrpError.{VrpError}
use Rattle.roa_table.specs.declared.errors.VrpError.TheVariants as fault
use Rattle.roa_table.proofs.Booleans.{either_true, or_left, or_right}
use Rattle.roa_table.proofs.Rising.{eq_is, tie_self}
use Rattle.roa_table.proofs.Gathered.{first_fault, fault_by, few_after, first_behind, count_given, none_left}

-- ---- rows that have payloads
pub nothing_has_payloads : HasPayloads []
nothing_has_payloads = record { readable = All-nil (λ row. IsOk (payload_of row)); few = rw (fin.len-empty vrp_cmp (Unit {0})) (omega arith) }

HasPayloads-take : (n : ℕ) (rows : List Record) → HasPayloads rows → HasPayloads (take n rows)
HasPayloads-take n rows h = record {
  readable = All-take (λ row. IsOk (payload_of row)) n rows h.readable;
  few =
      let front = count_given (take n rows) (drop n rows) in
      let all : count (given (take n rows ++ drop n rows)) ≤ 2000000 = rw (take-append-drop n rows) h.few in
      omega (arith, front, all);
}

gives_one : (n : ℕ) (r : Result VrpValue (ℕ → VrpError)) (many : Bool) → fault_by n r many ≡ None → IsOk r
gives_one n (Ok v) many h = refl
gives_one n (Err w) many h = cc

HasPayloads-push : (before : List Record) (row : Record) → HasPayloads before → fault_of before row ≡ None → HasPayloads (before ++ row ∷ [])
HasPayloads-push before row h none = record {
  readable = All-push (λ r. IsOk (payload_of r)) before row h.readable (gives_one (length before + 2) (payload_of row) _ none);
  few = few_after before row none;
}

-- ---- rows without a fault
pub HasPayloads-from_faultless : (before more : List Record) → HasPayloads before → first_fault before more ≡ None → HasPayloads (before ++ more)
HasPayloads-from_faultless before [] h none = rw (append-nil before) h
HasPayloads-from_faultless before (row ∷ more) h none =
    let parts = none_left (fault_of before row) (first_fault (before ++ row ∷ []) more) none in
    subst HasPayloads (append_assoc before (row ∷ []) more) (HasPayloads-from_faultless (before ++ row ∷ []) more (HasPayloads-push before row h parts.0) parts.1)

-- a fault of rows with payloads in front is one of those behind
first_fault-behind : (rows more : List Record) → HasPayloads rows → first_fault [] (rows ++ more) ≡ first_fault rows more
first_fault-behind rows more h = first_behind [] rows more (list_all-from_AllPass (λ row. is_ok (payload_of row)) rows h.readable) h.few

pub faultless_of_HasPayloads : (rows : List Record) → HasPayloads rows → first_fault [] rows ≡ None
faultless_of_HasPayloads rows h = ap (first_fault []) (sym (append-nil rows)) ∙ first_fault-behind rows [] h

-- ---- the first faulty row
told : (r : Result VrpValue (ℕ → VrpError)) (f w : ℕ → VrpError) (n : ℕ) → r ≡ Err f → r ≡ Err w → row_of (f n) ≡ n → row_of (w n) ≡ n
told r f w n is h here = let same : f ≡ w = cc (is, h) in ap (λ (g : ℕ → VrpError). row_of (g n)) (sym same) ∙ here

row_of-wrong : (row : Record) (w : ℕ → VrpError) (n : ℕ) → payload_of row ≡ Err w → row_of (w n) ≡ n
row_of-wrong [] w n h = told _ fault.Fields w n refl h refl
row_of-wrong (asn ∷ []) w n h = told _ fault.Fields w n refl h refl
row_of-wrong (asn ∷ (prefix ∷ [])) w n h = told _ fault.Fields w n refl h refl
row_of-wrong (asn ∷ (prefix ∷ (max ∷ more))) w n h = by (vrp_asn_of asn) (prefix_of prefix) h
  where
    last : (o : Option VrpValue) → ok_or o fault.BadMax ≡ Err w → row_of (w n) ≡ n
    last None k = told _ fault.BadMax w n refl k refl
    last (Some v) k = cc

    by : (a : Option ℕ) (p : Option PrefixValue) → (ok_or a fault.BadAsn >>= λ m. ok_or p fault.BadPrefix >>= λ q. ok_or (option_and_then (λ l. vrp_at q l m) (max_of q max)) fault.BadMax) ≡ Err w → row_of (w n) ≡ n
    by None p k = told _ fault.BadAsn w n refl k refl
    by (Some m) None k = told _ fault.BadPrefix w n refl k refl
    by (Some m) (Some q) k = last (option_and_then (λ l. vrp_at q l m) (max_of q max)) k

row_of-fault_by : (row : Record) (n : ℕ) (r : Result VrpValue (ℕ → VrpError)) (many : Bool) (e : VrpError) → payload_of row ≡ r → fault_by n r many ≡ Some e → row_of e ≡ n
row_of-fault_by row n (Err w) many e is h = let same : w n ≡ e = cc h in ap row_of (sym same) ∙ row_of-wrong row w n is
row_of-fault_by row n (Ok v) true e is h = let same : fault.TooMany n ≡ e = cc h in ap row_of (sym same)
row_of-fault_by row n (Ok v) false e is h = cc h

-- rows with payloads, the first faulty one, and those behind it
record SplitAt (rows : List Record) (e : VrpError) : Type 0 where
  front : List Record
  row : Record
  rest : List Record
  all : rows ≡ front ++ row ∷ rest
  fine : HasPayloads front
  faulty : fault_of front row ≡ Some e

split_at : (before more : List Record) (e : VrpError) → HasPayloads before → first_fault before more ≡ Some e → SplitAt (before ++ more) e
split_at before [] e h found = cc
split_at before (row ∷ more) e h found = by (fault_of before row) refl found (split_at (before ++ row ∷ []) more e)
  where
    by : (f : Option VrpError) → fault_of before row ≡ f → option_or f (first_fault (before ++ row ∷ []) more) ≡ Some e
        → (HasPayloads (before ++ row ∷ []) → first_fault (before ++ row ∷ []) more ≡ Some e → SplitAt ((before ++ row ∷ []) ++ more) e) → SplitAt (before ++ row ∷ more) e
    by (Some x) is here later = record { front = before; row = row; rest = more; all = refl; fine = h; faulty = is ∙ here }
    by None is behind later = subst (λ rows. SplitAt rows e) (append_assoc before (row ∷ []) more) (later (HasPayloads-push before row h is) behind)

pub first_faulty : (rows : List Record) (e : VrpError) → first_fault [] rows ≡ Some e → IsFirstFaulty rows e
first_faulty rows e found =
    let s = split_at [] rows e nothing_has_payloads found in
    let n : row_of e ≡ length s.front + 2 = row_of-fault_by s.row (length s.front + 2) (payload_of s.row) _ e refl s.faulty in
    let number : row_of e - 1 ≡ length s.front + 1 = omega (arith, n) in
    let upto : take (row_of e - 1) rows ≡ s.front ++ s.row ∷ [] = ap (λ k. take k rows) number ∙ ap (take (length s.front + 1)) s.all ∙ take-append-add s.front (s.row ∷ s.rest) 1 in
    record {
      inside = let all = ap length s.all ∙ length-append s.front (s.row ∷ s.rest) in omega (arith, n, all);
      before = λ row lt. subst HasPayloads (sym (ap (take (row - 1)) s.all ∙ take-append-le (row - 1) s.front (s.row ∷ s.rest) (omega (arith, lt, n)))) (HasPayloads-take (row - 1) s.front s.fine);
      here = ap (first_fault []) upto ∙ first_fault-behind s.front (s.row ∷ []) s.fine ∙ ap (λ f. option_or f None) s.faulty;
    }

-- ---- the payloads that rows give
module _ (v : VrpValue) where
  abbrev Gives : Record → Type 0
  Gives row = payload_of row ≡ Ok v

  here : (row : Record) (rows : List Record) → Gives row → Any Gives (row ∷ rows)
  here row rows h = (0, row, omega arith, refl, h)

  there : (row : Record) (rows : List Record) → Any Gives rows → Any Gives (row ∷ rows)
  there row rows h = (suc h.0, h.1, omega (arith, h.2), h.3, h.4)

  pub given_by : (rows : List Record) → stands_in (payloads_of rows) v ≡ true → Any Gives rows
  given_by [] h = cc
  given_by (row ∷ rows) h = by (payload_of row) refl h (given_by rows)
    where
      by : (r : Result VrpValue (ℕ → VrpError)) → payload_of row ≡ r → stands_in (cons_option (result_ok r) (payloads_of rows)) v ≡ true → (stands_in (payloads_of rows) v ≡ true → Any Gives rows) → Any Gives (row ∷ rows)
      by (Err w) is h later = there row rows (later h)
      by (Ok w) is h later = elim (either_true (eq_by_cmp vrp_cmp v w) (stands_in (payloads_of rows) v) h) as (λ _. Any Gives (row ∷ rows)) [
        | inl e ↦ here row rows (is ∙ ap (λ x. Ok x) (sym (eq_is vrp_total exact_vrp v w e)))
        | inr e ↦ there row rows (later e)
      ]

  stands_by : (rows : List Record) (k : ℕ) (row : Record) → k < length rows → get_or rows k row ≡ row → Gives row → stands_in (payloads_of rows) v ≡ true
  stands_by [] k row lt at h = absurd (omega (arith, lt))
  stands_by (r ∷ rows) zero row lt at h =
      ap (λ o. stands_in (cons_option (result_ok o) (payloads_of rows)) v) (ap payload_of at ∙ h)
      ∙ or_left (eq_by_cmp vrp_cmp v v) (stands_in (payloads_of rows) v) (tie_self vrp_total exact_vrp v)
  stands_by (r ∷ rows) (suc k) row lt at h = by (payload_of r) (stands_by rows k row (omega (arith, lt)) at h)
    where
      by : (o : Result VrpValue (ℕ → VrpError)) → stands_in (payloads_of rows) v ≡ true → stands_in (cons_option (result_ok o) (payloads_of rows)) v ≡ true
      by (Err w) e = e
      by (Ok w) e = or_right (eq_by_cmp vrp_cmp v w) (stands_in (payloads_of rows) v) e

  pub stands_if_given : (rows : List Record) → Any Gives rows → stands_in (payloads_of rows) v ≡ true
  stands_if_given rows h = stands_by rows h.0 h.1 h.2 h.3 h.4
